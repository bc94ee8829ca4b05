use Rattle.std.proofs.Common.{◌+◌, length, subst, sym}
use Rattle.relay_app.specs.Cutting.{Cutting, HasCut}
use Rattle.relay_app.proofs.Cuts.{end_on, at_ok}
use Rattle.relay_app.proofs.cutter.Cutter.end.Goals as goal

pub returns-clause-ended : goal.returns-clause-ended
returns-clause-ended g c =
    λ codec w h s.
    let P : Cutting _ → Type 0 = λ x. HasCut g.D.Decoder.state g.D.Decoder.stands codec w h x (g.W.Sink.state c.args.report.now) in
    rw c.in-End.is
    (end_on c.self.inside.decoder c.end.new.self c.self.inside.printer c.self.inside.fault c.self.inside.read (length c.self.inside.haul.units.items + length c.self.inside.haul.back.items) c.new-haul.ensures.units (subst P (sym c.self.view_is) s) (at_ok c.end.result c.if-is_err.ensures.value c.end.ensures.units) c.deref.ensures.value c.take_units.ensures)
