use Rattle.std.proofs.Common.{ap}
use Rattle.std.specs.List.{concat}
use Rattle.frame_head.specs.Framed.{framed, framed_text}
use Rattle.frame_writer.proofs.Lists.{left_next}
use Rattle.frame_writer.proofs.batches.print_batch.Goals as goal

pub frames-preserved : goal.frames-preserved
frames-preserved g c =
    left_next (framed c.args.out.now (concat c.in-Some.frame)) c.frames.invariant (ap (framed_text c.args.out.now) c.in-Some.ensures.steps) c.print_in_parts.ensures
