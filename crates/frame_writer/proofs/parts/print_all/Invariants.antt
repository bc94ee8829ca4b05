use Rattle.std.proofs.Common.{take, map}
use Rattle.buffered_io.specs.Writing.{PrintsTo, outlet}
use Rattle.frame_head.specs.Framed.{framed_text}
use Rattle.frame_writer.proofs.parts.print_all.Given as goal

abbrev pub invariant-loop-frame : goal.invariant-loop-frame
invariant-loop-frame g l = PrintsTo (framed_text l.out (map (λ f. f.now) (take l.frame-index l.frames)))
    (outlet l.fn.printer (g.W.Sink.state l.fn.sink)) (outlet l.printer (g.W.Sink.state l.sink))
