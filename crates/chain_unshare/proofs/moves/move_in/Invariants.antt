-- The nodes so far gave way to copies, where they aren't whole.
use Rattle.std.proofs.Common.{◌≡◌, ◌+◌, ◌≤◌, length}
use Rattle.std.specs.VecDeque.{deque_capacity}
use Rattle.chain_unshare.proofs.Unsharing.{Moving}
use Rattle.chain_unshare.proofs.moves.move_in.Given as goal

abbrev pub invariant-nodes : goal.invariant-nodes
invariant-nodes g l = record {
  moves : Moving g.O.Release.runs g.O.Release.last l.i l.fn.c l.c l.fn.copies.items l.copies.items l.backs.items;
  room : length l.backs.items + length l.copies.items ≤ deque_capacity l.backs;
  size : length l.c ≡ length l.fn.c;
}
