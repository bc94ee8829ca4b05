use Rattle.buffered_io.proofs.Digits.{written_at}
use Rattle.buffered_io.proofs.texts.write_long.Goals as goal
use Rattle.std.proofs.Common.{◌≡◌, arith}
use Rattle.std.specs.Prelude.{decimal}

pub returns-clause-digits : goal.returns-clause-digits
returns-clause-digits c =
    let there : c.write_digits-start.result ≡ c.args.at = omega (arith, c.write_digits-start.ensures.start, c.count_digits-count.ensures.count) in
    written_at c.args.room.now c.write_digits-start.new.buf (decimal c.args.n) _ c.args.at c.count_digits-count.result (rw there at c.write_digits-start.ensures.before) (rw there at c.write_digits-start.ensures.written) c.count_digits-count.ensures.count
