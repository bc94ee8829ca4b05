-- The nodes so far were cloned.
use Rattle.std.proofs.Common.{◌≤◌, length}
use Rattle.std.specs.VecDeque.{deque_capacity}
use Rattle.iobuf_chain.proofs.Shared.{SharesTo}
use Rattle.iobuf_chain.proofs.share.share_each.Given as goal

abbrev pub invariant-nodes : goal.invariant-nodes
invariant-nodes g l = record {
  shares : SharesTo l.i l.fn.mint l.mint l.fn.nodes l.nodes l.clones.items;
  room : length l.fn.nodes ≤ deque_capacity l.clones;
}
