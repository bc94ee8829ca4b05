use Rattle.buffered_io.proofs.Prints.{prints_both, prints_same}
use Rattle.frame_writer.proofs.writing.print_frame.Goals as goal

pub returns : goal.returns
returns g c =
    let ending = prints_same c.ending.ensures c.put-2.ensures.prints in
    prints_both (prints_both c.print_header.ensures c.put.ensures.prints) ending
