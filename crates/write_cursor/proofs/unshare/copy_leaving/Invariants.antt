-- The nodes so far were copied, where they leave.
use Rattle.write_cursor.proofs.Copying.{Copying}
use Rattle.write_cursor.proofs.unshare.copy_leaving.Given as goal

abbrev pub invariant-nodes : goal.invariant-nodes
invariant-nodes g l = Copying l.fn.place l.fn.n l.i l.fn.mint l.mint l.c l.at l.left l.copies.items
