use Rattle.std.proofs.Common.{arith}
use Rattle.buffered_io.proofs.Digits.{at_most_twenty, four_fewer}
use Rattle.buffered_io.proofs.texts.count_digits.Goals as goal

pub overflow_add-count : goal.overflow_add-count
overflow_add-count c = omega (arith, at_most_twenty c.args.n (omega arith), c.fours.invariant)

pub fours-preserved : goal.fours-preserved
fours-preserved c = four_fewer c.args.n c.fours.count c.fours.left (omega (arith, c.fours-test.true)) (omega arith) c.fours.invariant

pub overflow_add-result : goal.overflow_add-result
overflow_add-result c = omega (arith, at_most_twenty c.args.n (omega arith), c.fours.invariant, c.count_short.ensures)

pub returns-clause-most : goal.returns-clause-most
returns-clause-most c = omega (arith, at_most_twenty c.args.n (omega arith), c.fours.invariant, c.count_short.ensures)
