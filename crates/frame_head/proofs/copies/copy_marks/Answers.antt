use Rattle.frame_head.proofs.Delimiters.{take_next}
use Rattle.frame_head.proofs.copies.copy_marks.Goals as goal

pub loop-i-preserved : goal.loop-i-preserved
loop-i-preserved c =
    let more = take_next c.args.marks.now c.loop-i.i c.mark.result.now c.mark.ensures in
    let copied = c.in_ok-copy_mark.ensures in
    let kept = c.loop-i.invariant in
    let pushed = c.in_ok-push.ensures.items in
    cc (more, copied, kept, pushed)
