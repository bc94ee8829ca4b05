use Rattle.std.proofs.Common.{arith}
use Rattle.relay_words.proofs.Digits.{first_digits, digit_at}
use Rattle.relay_words.proofs.numbers.decimal.Goals as goal

pub overflow_mul-n : goal.overflow_mul-n
overflow_mul-n c = omega (arith, c.loop-d.invariant, first_digits c.args.w.now c.loop-d.d-index c.requires (omega arith))

pub overflow_add-n : goal.overflow_add-n
overflow_add-n c =
    omega (arith, c.loop-d.invariant, first_digits c.args.w.now c.loop-d.d-index c.requires (omega arith), digit_at c.args.w.now c.loop-d.d-index c.requires (omega arith), c.from.ensures)
