use Rattle.std.proofs.Common.{◌≡◌, drop, max}
use Rattle.frame_head.specs.Longest.{longest_mark}
use Rattle.frame_head.proofs.lengths.longest_mark.Given as goal

abbrev pub invariant-loop-i : goal.invariant-loop-i
invariant-loop-i l = max l.most (longest_mark (drop l.i l.list)) ≡ longest_mark l.list
