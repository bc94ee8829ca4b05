-- What was gathered, with what is left, is all.
use Rattle.std.proofs.Common.{◌≡◌, ◌++◌}
use Rattle.std.specs.List.{concat}
use Rattle.frame_batch.proofs.tests.gathering.gather_parts.Given as goal

abbrev pub invariant-parts : goal.invariant-parts
invariant-parts l = l.into.items ++ concat l.part-iterator ≡ l.fn.into.items ++ concat l.fn.parts
