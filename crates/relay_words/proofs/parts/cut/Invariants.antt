use Rattle.std.proofs.Common.{◌≡◌, ◌==◌, ◌++◌, length}
use Rattle.std.specs.List.{slice_split}
use Rattle.relay_words.proofs.parts.cut.Given as goal

abbrev pub invariant-loop-parts : goal.invariant-loop-parts
invariant-loop-parts l = l.parts.items ++ slice_split (λ b. b == l.byte) l.rest ≡ slice_split (λ b. b == l.byte) l.w

abbrev pub decreases-loop-parts : goal.decreases-loop-parts
decreases-loop-parts l = length l.rest
