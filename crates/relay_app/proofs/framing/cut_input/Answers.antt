use Rattle.std.proofs.Common.{subst, []}
use Rattle.frame_head.specs.declared.codecs.Codec.{Codec}
use Rattle.relay_app.specs.Cutting.{Closes, Interrupted}
use Rattle.relay_app.specs.Framing.{framing}
use Rattle.relay_app.proofs.Inputs.{closing, recode, starved_at_once, starved_on}
use Rattle.relay_app.proofs.framing.cut_input.Goals as goal

pub returns-in_default : goal.returns-in_default
returns-in_default g c =
    starved_at_once (framing (g.D.Decoder.state c.args.decoder).codec) c.args.reader.now.limit (g.S.Source.state c.args.reader.now.input) (g.W.Sink.state c.args.report.now) c.requires.fresh

pub cut_pieces-requires-clause-fresh : goal.cut_pieces-requires-clause-fresh
cut_pieces-requires-clause-fresh g c = recode (c.in-Ok.ensures.cut (g.W.Sink.state c.args.report.now))

pub returns-in-Ok-cut_pieces : goal.returns-in-Ok-cut_pieces
returns-in-Ok-cut_pieces g c =
    let cut = c.in-Ok-cut_pieces.ensures.cut in
    let codec = (g.D.Decoder.state c.args.decoder).codec in
    let C : Codec → Type 0 = λ x. Closes (framing x) c.in-Ok-cut_pieces.stop cut.0 (g.W.Sink.state c.args.report.now) (g.W.Sink.state c.close.new.report) c.close.result in
    closing (framing codec) c.args.reader.now.block c.args.reader.now.limit c.in-Ok-cut_pieces.stop cut.0 (g.S.Source.state c.args.reader.now.input) (g.S.Source.state c.cut_pieces.new.reader.input) c.requires.fresh cut.2
    (subst C (c.in-Ok.ensures.cut (g.W.Sink.state c.args.report.now)).codec_same (c.close.ensures (g.D.Decoder.state c.in-Ok.cutter.decoder).codec (g.W.Sink.state c.args.report.now) cut.0 cut.1))

pub returns : goal.returns
returns g c =
    let codec = (g.D.Decoder.state c.args.decoder).codec in
    let laws = g.met.D.Decoder in
    let I : Codec → Type 0 = λ x. Interrupted x c.args.reader.now.block c.args.reader.now.limit (g.S.Source.state c.args.reader.now.input) (g.S.Source.state c.cut_pieces.new.reader.input) (g.W.Sink.state c.args.report.now) (g.W.Sink.state c.cut_pieces.new.report) in
    starved_on codec (g.S.Source.state c.args.reader.now.input) c.stable_units.ensures (laws.counted c.args.decoder [] c.requires.fed).2 c.requires.fresh
    (subst I (c.in-Ok.ensures.cut (g.W.Sink.state c.args.report.now)).codec_same c.in-Err.ensures.interrupted)
