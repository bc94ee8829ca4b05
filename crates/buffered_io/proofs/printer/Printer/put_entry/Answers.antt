use Rattle.buffered_io.proofs.Prints.{prints_both}
use Rattle.buffered_io.proofs.printer.Printer.put_entry.Goals as goal

pub returns-clause-prints : goal.returns-clause-prints
returns-clause-prints g c = prints_both c.make_room.ensures.prints (c.keep_entry.ensures (g.W.Sink.state c.make_room.new.sink))
