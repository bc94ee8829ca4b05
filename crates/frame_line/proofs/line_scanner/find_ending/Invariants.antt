use Rattle.std.proofs.Common.{◌≡◌, ℕ, List, ◌++◌, length, ◌-◌, ◌≤◌, take}
use Rattle.frame_head.specs.Endings.{line_endings}
use Rattle.frame_rule.specs.Endings.{Unended}
use Rattle.frame_line.specs.Lines.{ends_in_return}
use Rattle.frame_line.proofs.line_scanner.find_ending.Given as goal

abbrev pub invariant-feeds : goal.invariant-feeds
invariant-feeds l = record {
  within : l.at ≤ length l.bytes;
  unended : (r : List ℕ) → Unended (line_endings l.ending) r → ends_in_return r ≡ l.after_return → Unended (line_endings l.ending) (r ++ take l.at l.bytes);
}

abbrev pub decreases-feeds : goal.decreases-feeds
decreases-feeds l = length l.bytes - l.at
