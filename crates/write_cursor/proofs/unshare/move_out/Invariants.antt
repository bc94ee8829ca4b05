-- The nodes so far gave way to copies, where they leave.
use Rattle.std.proofs.Common.{◌≡◌, ◌+◌, ◌≤◌, length}
use Rattle.std.specs.VecDeque.{deque_capacity}
use Rattle.write_cursor.proofs.Moving.{Moving}
use Rattle.write_cursor.proofs.unshare.move_out.Given as goal

abbrev pub invariant-nodes : goal.invariant-nodes
invariant-nodes g l = record {
  moves : Moving g.O.Release.runs g.O.Release.last l.fn.place l.fn.n l.i l.fn.c l.c l.fn.copies.items l.copies.items l.backs.items l.at l.left;
  room : length l.backs.items + length l.copies.items ≤ deque_capacity l.backs;
  size : length l.c ≡ length l.fn.c;
}
