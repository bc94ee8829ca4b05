use Rattle.std.proofs.Common.{◌≡◌, drop}
use Rattle.frame_writer.specs.Over.{first_over}
use Rattle.frame_writer.proofs.batches.check_batch.Given as goal

abbrev pub invariant-frames : goal.invariant-frames
invariant-frames l = first_over l.out (drop l.i l.batch.frames) ≡ first_over l.out l.batch.frames
