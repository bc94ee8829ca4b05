use Rattle.std.proofs.Common.{sym, ◌∙◌}
use Rattle.frame_head.proofs.Delimiters.{longest_next}
use Rattle.frame_head.proofs.lengths.longest_mark.Goals as goal

pub loop-i-preserved : goal.loop-i-preserved
loop-i-preserved c =
    let more = longest_next c.args.list.now c.loop-i.i c.mark.result.now c.loop-i.most c.mark.ensures in
    let kept = c.loop-i.invariant in
    rw (c.max-most.ensures, c.bytes.ensures) (sym more ∙ kept)
