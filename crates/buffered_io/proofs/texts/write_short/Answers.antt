use Rattle.std.proofs.Common.{arith}
use Rattle.buffered_io.proofs.Digits.{one_put, two_put}
use Rattle.buffered_io.proofs.texts.write_short.Goals as goal

pub returns-then-n-lt10-clause-digits : goal.returns-then-n-lt10-clause-digits
returns-then-n-lt10-clause-digits c = one_put c.args.room.now c.args.at c.args.n (omega arith) (omega arith)

pub returns-else-n-lt10-clause-digits : goal.returns-else-n-lt10-clause-digits
returns-else-n-lt10-clause-digits c = two_put c.args.room.now c.args.at c.args.n (omega arith) (omega arith) (omega arith)
