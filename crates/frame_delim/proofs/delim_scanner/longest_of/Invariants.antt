use Rattle.std.proofs.Common.{◌<◌, ◌≤◌, take}
use Rattle.frame_delim.specs.Marks.{NoneOver}
use Rattle.frame_delim.proofs.delim_scanner.longest_of.Given as goal

abbrev pub invariant-loop-i : goal.invariant-loop-i
invariant-loop-i l = record {
  most : NoneOver l.longest (take l.i l.list);
  some : 0 < l.longest;
  few : NoneOver 64 l.list → l.longest ≤ 64;
}
