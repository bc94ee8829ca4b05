use Rattle.std.proofs.Common.{arith}
use Rattle.iobuf_node.proofs.node.IoBufOf.bytes.Goals as goal

pub overflow_add-end : goal.overflow_add-end
overflow_add-end g c = omega (arith, c.headroom-start.ensures.fits)
