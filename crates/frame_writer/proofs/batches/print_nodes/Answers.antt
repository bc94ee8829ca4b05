use Rattle.std.proofs.Common.{sym}
use Rattle.buffered_io.proofs.Prints.{prints_both, prints_same}
use Rattle.iobuf_chain.proofs.Sliced.{bytes_more}
use Rattle.frame_writer.proofs.batches.print_nodes.Goals as goal

pub nodes-preserved : goal.nodes-preserved
nodes-preserved g c =
    prints_same (sym (bytes_more c.nodes.i c.args.frame.now c.node.result.now c.node.ensures))
    (prints_both c.nodes.invariant (prints_same c.bytes.ensures c.put.ensures.prints))
