use Rattle.std.proofs.Common.{◌+◌, arith, length, subst, sym, List, []}
use Rattle.frame_head.specs.Heads.{FramingUnit}
use Rattle.frame_rule.specs.Units.{unit_of}
use Rattle.relay_app.specs.Cutting.{Cutting, TakesUnits}
use Rattle.relay_app.proofs.Cuts.{takes_more, takes_nothing}
use Rattle.relay_app.proofs.Texts.{units_further}
use Rattle.relay_app.proofs.cutter.Cutter.take_units.Goals as goal

pub units-init : goal.units-init
units-init g c =
    let T : Cutting _ → Type 0 = λ x. TakesUnits [] c.args.self.now (g.W.Sink.state c.args.report.now) x (g.W.Sink.state c.args.report.now) in
    subst T (sym c.self.view_is) (takes_nothing c.args.self.now (g.W.Sink.state c.args.report.now))

pub units-preserved : goal.units-preserved
units-preserved g c =
    let T : List FramingUnit → Type 0 = λ us. TakesUnits us c.args.self.now (g.W.Sink.state c.args.report.now)
    (record { decoder = c.units.self-inside.decoder; waiting = c.print_unit.new.printer; fault = c.note.new.fault; read = c.units.self-inside.read; held = length c.units.self-inside.haul.units.items + length c.units.self-inside.haul.back.items }) (g.W.Sink.state c.print_unit.new.sink) in
    subst T (sym (units_further c.args.found.now c.units.unit-index c.unit-item.result (omega (arith, c.units-test.true)) c.unit-item.is))
    (takes_more c.units.self-inside.decoder c.units.self-inside.printer c.print_unit.new.printer c.units.self-inside.fault c.note.new.fault c.units.self-inside.read (length c.units.self-inside.haul.units.items + length c.units.self-inside.haul.back.items) (unit_of c.unit-item.result)
    c.units.invariant c.print_unit.ensures c.note.ensures)
