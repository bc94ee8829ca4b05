-- The nodes so far have their copies.
use Rattle.std.proofs.Common.{◌≤◌, length}
use Rattle.std.specs.VecDeque.{deque_capacity}
use Rattle.iobuf_chain.proofs.Moved.{CopiesTo}
use Rattle.iobuf_chain.proofs.managed.copies_of.Given as goal

abbrev pub invariant-nodes : goal.invariant-nodes
invariant-nodes g l = record {
  copies : CopiesTo l.i l.fn.mint l.mint l.nodes.items l.copies.items;
  room : length l.nodes.items ≤ deque_capacity l.copies;
}
