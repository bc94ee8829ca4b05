use Rattle.std.proofs.Common.{ap}
use Rattle.buffered_io.proofs.Prints.{prints_both, prints_same}
use Rattle.frame_head.specs.Framed.{header_of}
use Rattle.frame_writer.proofs.batches.print_in_parts.Goals as goal

pub returns : goal.returns
returns g c =
    let head = prints_same (ap (header_of c.args.out.now) c.length.ensures) c.print_header.ensures in
    prints_both (prints_both head c.print_each.ensures) (prints_same c.ending.ensures c.put.ensures.prints)
