use Rattle.buffered_io.proofs.Prints.{prints_both}
use Rattle.buffered_io.proofs.printer.Printer.put_long.Goals as goal

pub returns-else-bytes-lt-ROOM : goal.returns-else-bytes-lt-ROOM
returns-else-bytes-lt-ROOM g c = prints_both c.flush.ensures.prints c.put_from_place.ensures
