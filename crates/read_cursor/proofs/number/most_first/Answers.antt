use Rattle.std.proofs.Common.{arith}
use Rattle.read_cursor.proofs.Weights.{room}
use Rattle.read_cursor.proofs.number.most_first.Goals as goal

pub overflow_mul-n : goal.overflow_mul-n
overflow_mul-n c = omega (arith, room c.loop-x.n c.loop-x.x-index c.loop-x.invariant.below (omega arith))

pub overflow_add-n : goal.overflow_add-n
overflow_add-n c = omega (arith, c.from.ensures, c.type_inv.bytes c.loop-x.x-index, room c.loop-x.n c.loop-x.x-index c.loop-x.invariant.below (omega arith))
