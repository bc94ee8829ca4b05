use Rattle.buffered_io.specs.Writing.{outlet}
use Rattle.frame_head.specs.Framed.{framed_text}
use Rattle.frame_writer.proofs.Lists.{PrintsLeft}
use Rattle.frame_writer.proofs.batches.print_batch.Given as goal

abbrev pub invariant-frames : goal.invariant-frames
invariant-frames g l = PrintsLeft (framed_text l.out l.frames) (framed_text l.out l.batch.frames)
    (outlet l.fn.printer (g.W.Sink.state l.fn.sink)) (outlet l.printer (g.W.Sink.state l.sink))
