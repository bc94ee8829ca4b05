use Rattle.std.proofs.Common.{◌-◌, ℕ, List}
use Rattle.input_pieces.specs.Pieces.{HasRead}
use Rattle.iobuf_chain.specs.Copies.{IsHeavy, WithData}
use Rattle.relay_app.specs.Cutting.{HasCut}
use Rattle.relay_app.proofs.framing.cut_pieces.Given as goal

abbrev pub invariant-reading : goal.invariant-reading
invariant-reading g l =
    (h : List ℕ)
    × HasCut g.D.Decoder.state g.D.Decoder.stands (g.D.Decoder.state l.fn.cutter.decoder).codec (g.W.Sink.state l.fn.report) h l.cutter (g.W.Sink.state l.report)
    × HasRead g.S.Source.state l.fn.reader.block l.fn.reader.limit (g.S.Source.state l.fn.reader.input) h l.reader
    × WithData IsHeavy (g.D.Decoder.state l.cutter.decoder).kept

abbrev pub decreases-reading : goal.decreases-reading
decreases-reading g l = l.reader.limit - l.reader.read
