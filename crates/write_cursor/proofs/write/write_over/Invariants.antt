-- The nodes so far took their bytes.
use Rattle.std.proofs.Common.{◌≡◌, length}
use Rattle.write_cursor.proofs.Writing.{Writing}
use Rattle.write_cursor.proofs.write.write_over.Given as goal

abbrev pub invariant-nodes : goal.invariant-nodes
invariant-nodes g l = record {
  writes : Writing l.fn.place l.fn.bytes l.i l.fn.c l.c l.at l.rest;
  size : length l.c ≡ length l.fn.c;
}
