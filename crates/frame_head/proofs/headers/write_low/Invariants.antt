use Rattle.std.proofs.Common.{◌≡◌, ◌-◌, ◌++◌, length, take}
use Rattle.frame_head.specs.Framed.{low_bytes}
use Rattle.frame_head.proofs.headers.write_low.Given as goal

abbrev pub invariant-loop-i : goal.invariant-loop-i
invariant-loop-i l = take l.i l.field ++ low_bytes (length l.fn.field - l.i) l.left ≡ low_bytes (length l.fn.field) l.fn.n
