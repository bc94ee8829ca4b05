-- The nodes so far stand in the list of the copies, or their copies do.
use Rattle.std.proofs.Common.{◌≡◌, length}
use Rattle.iobuf_chain.proofs.Moved.{PicksTo}
use Rattle.iobuf_chain.proofs.managed.pick_each.Given as goal

abbrev pub invariant-nodes : goal.invariant-nodes
invariant-nodes g l = record {
  picks : PicksTo l.fn.nodes.items l.fn.copies.items l.nodes.items l.picked.items;
  mint : l.mint ≡ l.fn.mint;
}

abbrev pub decreases-nodes : goal.decreases-nodes
decreases-nodes g l = length l.nodes.items
