use Rattle.std.proofs.Common.{◌≡◌, ◌+◌, length, arith}
use Rattle.iobuf_chain.proofs.Shared.{rejoins_size, rejoins_step, rejoins_end}
use Rattle.iobuf_chain.proofs.share.rejoin_each.Goals as goal

pub unreachable-requires : goal.unreachable-requires
unreachable-requires g c =
    let size = rejoins_size _ _ _ _ _ c.clones.invariant in
    let none = c.in_default.ensures.cases.0 in
    omega (arith, size, none)

pub clones-preserved : goal.clones-preserved
clones-preserved g c = rejoins_step _ _ _ _ _ _ _ c.in-Some.share c.clones.invariant c.in-Some.ensures.items c.rejoin_node.ensures

pub returns : goal.returns
returns g c = rejoins_end _ _ _ _ _ c.clones.invariant (omega arith)
