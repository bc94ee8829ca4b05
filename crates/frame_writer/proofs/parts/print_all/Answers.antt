use Rattle.std.proofs.Common.{◌<◌, length}
use Rattle.buffered_io.proofs.Prints.{prints_both, prints_same}
use Rattle.frame_writer.proofs.Lists.{text_next}
use Rattle.frame_writer.proofs.parts.print_all.Goals as goal

pub loop-frame-preserved : goal.loop-frame-preserved
loop-frame-preserved g c =
    let within : c.loop-frame.frame-index < length c.args.frames.now = c.loop-frame-test.true in
    let printed = prints_both c.loop-frame.invariant c.print_frame.ensures in
    prints_same (text_next c.args.out.now (λ f. f.now) c.args.frames.now c.loop-frame.frame-index _ within) printed
