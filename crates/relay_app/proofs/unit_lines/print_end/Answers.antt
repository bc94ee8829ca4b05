use Rattle.buffered_io.proofs.Prints.{prints_both}
use Rattle.relay_app.proofs.unit_lines.print_end.Goals as goal

pub returns : goal.returns
returns g c = prints_both (prints_both c.put.ensures.prints c.put_decimal.ensures.prints) c.put-2.ensures.prints
