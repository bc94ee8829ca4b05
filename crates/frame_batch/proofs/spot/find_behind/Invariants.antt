-- The place lies at the node or behind it.
use Rattle.std.proofs.Common.{◌≤◌, ◌-◌, length}
use Rattle.frame_batch.specs.Spots.{IsAt}
use Rattle.frame_batch.proofs.spot.find_behind.Given as goal

abbrev pub invariant-nodes : goal.invariant-nodes
invariant-nodes l = record {
  at : IsAt l.chain l.spot;
  before : l.spot.first ≤ l.place;
}

abbrev pub decreases-nodes : goal.decreases-nodes
decreases-nodes l = length l.chain - l.spot.index
