use Rattle.std.proofs.Common.{◌<◌, length}
use Rattle.buffered_io.proofs.Prints.{prints_both, prints_same}
use Rattle.frame_writer.proofs.Lists.{joined_next}
use Rattle.frame_writer.proofs.parts.print_parts.Goals as goal

pub loop-part-preserved : goal.loop-part-preserved
loop-part-preserved g c =
    let within : c.loop-part.part-index < length c.args.parts.now = c.loop-part-test.true in
    let printed = prints_both c.loop-part.invariant c.put.ensures.prints in
    prints_same (joined_next (λ p. p.now) c.args.parts.now c.loop-part.part-index _ within) printed
