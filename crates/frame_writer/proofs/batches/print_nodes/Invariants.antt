use Rattle.std.proofs.Common.{take}
use Rattle.buffer_model.specs.Segment.{bytes_of}
use Rattle.buffered_io.specs.Writing.{PrintsTo, outlet}
use Rattle.frame_writer.proofs.batches.print_nodes.Given as goal

abbrev pub invariant-nodes : goal.invariant-nodes
invariant-nodes g l = PrintsTo (bytes_of (take l.i l.frame))
    (outlet l.fn.printer (g.W.Sink.state l.fn.sink)) (outlet l.printer (g.W.Sink.state l.sink))
