use Rattle.iobuf_chain.proofs.Ranged.{part_none, part_some}
use Rattle.iobuf_chain.proofs.range.share_part.Goals as goal

pub returns-then-at-len-clause-shares : goal.returns-then-at-len-clause-shares
returns-then-at-len-clause-shares g c =
    part_none _ _ _ _ _ _ _ c.get.result.now c.get.ensures c.length-len.ensures c.if-at-len.true

pub returns-clause-shares : goal.returns-clause-shares
returns-clause-shares g c =
    part_some _ _ _ _ _ _ _ _ _ _ _ _ c.get.result.now c.in-Ok.share c.trim_start.new.self c.trim_end.new.self c.get.ensures c.length-len.ensures
    c.if-at-len.false c.requires.some c.in-Ok.ensures.shares c.trim_start.ensures.window c.saturating_sub.ensures c.trim_end.ensures.window
    c.reserve.ensures.items c.push_back_reserved.ensures.items
