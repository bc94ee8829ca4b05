use Rattle.std.proofs.Common.{length}
use Rattle.relay_app.proofs.cutter.empty.Given as goal

abbrev pub invariant-units : goal.invariant-units
invariant-units l = Unit {0}

abbrev pub decreases-units : goal.decreases-units
decreases-units l = length l.haul.units.items
