use Rattle.std.proofs.Common.{ap}
use Rattle.std.specs.List.{concat}
use Rattle.frame_writer.proofs.Lists.{left_next}
use Rattle.frame_writer.proofs.batches.print_each.Goals as goal

pub parts-preserved : goal.parts-preserved
parts-preserved g c = left_next c.in-Some.part.now c.parts.invariant (ap concat c.in-Some.ensures.steps) c.put.ensures.prints
