use Rattle.std.proofs.Common.{◌≡◌, ◌-◌, ◌<◌, ◌≤◌, ◌^◌, drop, length, reverse}
use Rattle.frame_head.specs.Numbers.{number}
use Rattle.read_cursor.proofs.number.least_first.Given as goal

abbrev pub invariant-loop-i : goal.invariant-loop-i
invariant-loop-i l = record {
  within : l.i ≤ length l.bytes;
  so_far : l.n ≡ number (reverse (drop l.i l.bytes));
  below : l.n < 256 ^ (length l.bytes - l.i);
}

abbrev pub decreases-loop-i : goal.decreases-loop-i
decreases-loop-i l = l.i
