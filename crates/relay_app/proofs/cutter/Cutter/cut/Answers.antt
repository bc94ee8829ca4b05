use Rattle.std.proofs.Common.{◌+◌, ◌++◌, arith, length, subst, sym}
use Rattle.relay_app.specs.Cutting.{Cutting, HasCut}
use Rattle.relay_app.proofs.Cuts.{cut_on}
use Rattle.relay_app.proofs.cutter.Cutter.cut.Goals as goal

pub returns-clause-cut : goal.returns-clause-cut
returns-clause-cut g c =
    λ codec w h s.
    let Q : Cutting _ → Type 0 = λ x. HasCut g.D.Decoder.state g.D.Decoder.stands codec w (h ++ c.args.block.window) (record x { read = x.read + c.length-count.result; held = length c.in_ok-haul.haul.units.items + length c.in_ok-haul.haul.back.items }) (g.W.Sink.state c.take_units.new.report) in
    subst Q (sym c.self.view_is)
    (cut_on c.length-count.result (length c.in_ok-haul.haul.units.items + length c.in_ok-haul.haul.back.items) s c.in_ok-haul.ensures.same c.in_ok-haul.ensures.codec c.in_ok-haul.ensures.units c.deref.ensures.value c.take_units.ensures (omega arith))
