use Rattle.std.proofs.Common.{take, flat_map}
use Rattle.buffered_io.specs.Writing.{PrintsTo, outlet}
use Rattle.frame_writer.proofs.parts.print_parts.Given as goal

abbrev pub invariant-loop-part : goal.invariant-loop-part
invariant-loop-part g l = PrintsTo (flat_map (λ p. p.now) (take l.part-index l.parts))
    (outlet l.fn.printer (g.W.Sink.state l.fn.sink)) (outlet l.printer (g.W.Sink.state l.sink))
