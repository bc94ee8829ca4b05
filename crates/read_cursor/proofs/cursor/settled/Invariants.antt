-- The same place.
use Rattle.std.proofs.Common.{◌≡◌, ◌-◌}
use Rattle.read_cursor.specs.Reading.{place_in}
use Rattle.read_cursor.proofs.cursor.settled.Given as goal

abbrev pub invariant-nodes : goal.invariant-nodes
invariant-nodes g l = place_in l.chain l.i l.k ≡ place_in l.chain l.node l.at

abbrev pub decreases-nodes : goal.decreases-nodes
decreases-nodes g l = l.count - l.i
