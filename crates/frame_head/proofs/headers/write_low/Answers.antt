use Rattle.std.proofs.Common.{◌<◌, length, arith}
use Rattle.frame_head.proofs.Fields.{low_written}
use Rattle.frame_head.proofs.headers.write_low.Goals as goal

pub loop-i-preserved : goal.loop-i-preserved
loop-i-preserved c =
    let within : c.loop-i.i < length c.loop-i.field = omega arith in
    let below : c.loop-i.i < length c.args.field.now = omega arith in
    low_written c.loop-i.field c.loop-i.i c.loop-i.left (length c.args.field.now) _ within below c.loop-i.invariant
