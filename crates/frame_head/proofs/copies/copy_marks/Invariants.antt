use Rattle.std.proofs.Common.{◌≡◌, take}
use Rattle.frame_head.proofs.copies.copy_marks.Given as goal

abbrev pub invariant-loop-i : goal.invariant-loop-i
invariant-loop-i l = l.list.items ≡ take l.i l.marks
