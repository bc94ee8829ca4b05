use Rattle.std.proofs.Common.{◌∙◌, ap}
use Rattle.buffered_io.proofs.Prints.{prints_both, prints_same}
use Rattle.frame_head.specs.Framed.{header_of}
use Rattle.frame_writer.proofs.batches.write_chain.Goals as goal

pub returns-clause-printed : goal.returns-clause-printed
returns-clause-printed g c =
    let size = c.in_ok-n.ensures.1 ∙ ap (λ w. header_of c.args.out.now w) c.length.ensures in
    let front = prints_both (prints_same size c.print_header.ensures) c.print_nodes.ensures in
    prints_both front (prints_same c.ending.ensures c.put.ensures.prints)
