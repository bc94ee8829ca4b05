use Rattle.buffered_io.proofs.Prints.{prints_both, prints_same}
use Rattle.relay_app.proofs.unit_lines.print_fault.Goals as goal

pub returns : goal.returns
returns g c = prints_both (prints_both (prints_both (prints_both c.put.ensures.prints c.put_decimal.ensures.prints) c.put-2.ensures.prints) (prints_same c.name_of.ensures c.put-3.ensures.prints)) c.put-4.ensures.prints
