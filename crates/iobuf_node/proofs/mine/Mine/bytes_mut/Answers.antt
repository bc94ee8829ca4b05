use Rattle.std.proofs.Common.{arith}
use Rattle.iobuf_node.proofs.mine.Mine.bytes_mut.Goals as goal

pub overflow_add-start : goal.overflow_add-start
overflow_add-start g c = omega (arith, c.head-start.ensures.fits)
