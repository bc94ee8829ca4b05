use Rattle.std.proofs.Common.{ℕ, ap, subst, sym}
use Rattle.input_pieces.specs.Pieces.{Reading}
use Rattle.relay_ports.specs.Calls.{FinishedInput}
use Rattle.relay_app.specs.Cutting.{ReadsAndReports}
use Rattle.relay_app.specs.Framing.{framing}
use Rattle.relay_app.proofs.Hosts.{finishing}
use Rattle.relay_app.proofs.Inputs.{own_read}
use Rattle.relay_app.proofs.framing.frames_by.Goals as goal

pub cut_input-status-requires-clause-unread : goal.cut_input-status-requires-clause-unread
cut_input-status-requires-clause-unread g c = own_read c.new-reader.result c.in-Ok.input c.args.block c.args.limit c.new-reader.ensures.reading c.new-reader.ensures.read

pub returns : goal.returns
returns g c =
    let R : ℕ → Type 0 =
    λ n. ReadsAndReports (framing (g.D.Decoder.state c.args.decoder).codec) n (g.H.Input.Source.state c.cut_input-status.new.reader.input) (g.H.Output.Sink.state c.report.result.now) (g.H.Output.Sink.state c.cut_input-status.new.report) c.cut_input-status.result in
    let F : _ → Type 0 = λ i. FinishedInput c.args.name.now (g.H.Input.Source.state i) (g.H.Host.state (g.H.Host.with_report c.open_in.new.self c.cut_input-status.new.report)) (g.H.Host.state c.finish_in.new.self) in
    finishing (framing (g.D.Decoder.state c.args.decoder).codec) c.args.name.now (g.H.Host.state c.args.host.now) (g.H.Host.state c.open_in.new.self) (g.H.Host.state (g.H.Host.with_report c.open_in.new.self c.cut_input-status.new.report)) (g.H.Host.state c.finish_in.new.self) (g.H.Input.Source.state c.cut_input-status.new.reader.input)
    c.in-Ok.ensures.opened c.report.ensures.value (g.met.H.Host.told c.open_in.new.self c.cut_input-status.new.report) (subst F c.into_input.ensures c.finish_in.ensures.closed)
    (subst R (ap (λ (r : Reading _). r.limit) c.new-reader.ensures.reading) c.cut_input-status.ensures)
