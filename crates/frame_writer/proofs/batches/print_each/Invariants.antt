use Rattle.std.specs.List.{concat}
use Rattle.buffered_io.specs.Writing.{outlet}
use Rattle.frame_writer.proofs.Lists.{PrintsLeft}
use Rattle.frame_writer.proofs.batches.print_each.Given as goal

abbrev pub invariant-parts : goal.invariant-parts
invariant-parts g l = PrintsLeft (concat l.frame) (concat l.fn.frame)
    (outlet l.fn.printer (g.W.Sink.state l.fn.sink)) (outlet l.printer (g.W.Sink.state l.sink))
