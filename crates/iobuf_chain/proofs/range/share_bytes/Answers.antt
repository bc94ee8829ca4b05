use Rattle.std.proofs.Common.{arith}
use Rattle.iobuf_chain.proofs.Ranged.{range_some}
use Rattle.iobuf_chain.proofs.range.share_bytes.Goals as goal

pub unreachable-requires : goal.unreachable-requires
unreachable-requires g c =
    let some = (range_some _ _ _ _ _ _ _ c.in-Ok.ensures.shares c.requires.some c.requires.there).1 in
    let none = c.in_default.ensures.cases.0 in
    omega (arith, some, none)
