use Rattle.buffered_io.proofs.Prints.{prints_both}
use Rattle.buffered_io.proofs.printer.Printer.put_decimal.Goals as goal

pub returns-clause-prints : goal.returns-clause-prints
returns-clause-prints g c = prints_both c.make_room.ensures.prints (c.keep_decimal.ensures (g.W.Sink.state c.make_room.new.sink))
