-- The nodes so far were copied, where they aren't whole.
use Rattle.std.proofs.Common.{◌≤◌, length, take}
use Rattle.std.specs.VecDeque.{deque_capacity}
use Rattle.chain_unshare.specs.Unshares.{shared_in, CopiesEach}
use Rattle.chain_unshare.proofs.moves.copy_shared.Given as goal

abbrev pub invariant-nodes : goal.invariant-nodes
invariant-nodes g l = record {
  copies : CopiesEach l.fn.mint l.mint (shared_in (take l.i l.c)) l.copies.items;
  room : length (shared_in l.c) ≤ deque_capacity l.copies;
}
