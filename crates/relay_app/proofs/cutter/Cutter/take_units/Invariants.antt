use Rattle.std.proofs.Common.{◌+◌, length, take}
use Rattle.frame_rule.specs.Units.{units_of}
use Rattle.relay_app.specs.Cutting.{TakesUnits}
use Rattle.relay_app.proofs.cutter.Cutter.take_units.Given as goal

abbrev pub invariant-units : goal.invariant-units
invariant-units g l =
    TakesUnits (units_of (take l.unit-index l.found)) l.fn.self (g.W.Sink.state l.fn.report)
    (record { decoder = l.self-inside.decoder; waiting = l.self-inside.printer; fault = l.self-inside.fault; read = l.self-inside.read; held = length l.self-inside.haul.units.items + length l.self-inside.haul.back.items }) (g.W.Sink.state l.report)
