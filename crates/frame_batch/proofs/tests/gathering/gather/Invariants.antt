-- What was gathered, with what is left, is all.
use Rattle.std.proofs.Common.{◌≡◌, ◌++◌}
use Rattle.std.specs.List.{concat}
use Rattle.frame_batch.proofs.tests.gathering.gather.Given as goal

abbrev pub invariant-frames : goal.invariant-frames
invariant-frames l = l.into.items ++ concat l.frame-iterator ≡ l.fn.into.items ++ concat l.fn.batch.frames
