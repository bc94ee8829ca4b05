use Rattle.std.proofs.Common.{ℕ, List, ◌++◌, length, ◌-◌, ◌≤◌, take}
use Rattle.frame_rule.specs.Endings.{Unended}
use Rattle.frame_delim.specs.Tails.{Tells}
use Rattle.frame_delim.proofs.find.find_ending.Given as goal

abbrev pub invariant-candidates : goal.invariant-candidates
invariant-candidates l = record {
  within : l.at ≤ length l.bytes;
  unended : (r : List ℕ) → Unended l.list r → Tells l.list l.tail r → Unended l.list (r ++ take l.at l.bytes);
}

abbrev pub decreases-candidates : goal.decreases-candidates
decreases-candidates l = length l.bytes - l.at
