use Rattle.std.proofs.Common.{length, take, ◌-◌, ◌≡◌, ◌≤◌}
use Rattle.frame_mark.specs.Marking.{windows_of}
use Rattle.frame_mark.proofs.windows.windows.Given as goal

abbrev pub invariant-marks : goal.invariant-marks
invariant-marks l = record {
  within : l.i ≤ length l.marks;
  list : l.windows.items ≡ windows_of l.base (take l.i l.marks);
}

abbrev pub decreases-marks : goal.decreases-marks
decreases-marks l = length l.marks - l.i
