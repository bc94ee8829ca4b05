use Rattle.std.proofs.Common.{◌≡◌, ◌++◌, length, ◌≤◌, drop}
use Rattle.std.specs.Option.{option_map}
use Rattle.frame_head.specs.Endings.{longest_ending}
use Rattle.frame_delim.proofs.find.longest_at.Given as goal

abbrev pub invariant-loop-i : goal.invariant-loop-i
invariant-loop-i l = record {
  within : l.i ≤ length l.list;
  longest : l.longest ≡ option_map (λ m. length m) (longest_ending (drop l.i l.list) (l.tail ++ l.front));
}

abbrev pub decreases-loop-i : goal.decreases-loop-i
decreases-loop-i l = l.i
