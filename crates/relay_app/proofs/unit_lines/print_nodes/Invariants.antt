use Rattle.std.proofs.Common.{take}
use Rattle.hex.specs.Hex.{encode_lower}
use Rattle.buffer_model.specs.Segment.{bytes_of}
use Rattle.buffered_io.specs.Writing.{PrintsTo, outlet}
use Rattle.relay_app.proofs.unit_lines.print_nodes.Given as goal

abbrev pub invariant-nodes : goal.invariant-nodes
invariant-nodes g l = PrintsTo (encode_lower (bytes_of (take l.i l.frame))) (outlet l.fn.printer (g.W.Sink.state l.fn.sink)) (outlet l.printer (g.W.Sink.state l.sink))
