use Rattle.std.proofs.Common.{length, ap, arith}
use Rattle.iobuf_chain.proofs.Shared.{rejoins_size, rejoins_step, rejoins_end}
use Rattle.iobuf_chain.proofs.ManyBack.{first_may, first_there, rejoins_first, rejoins_may, rejoins_there}
use Rattle.iobuf_chain.proofs.many.rejoin_nodes.Goals as goal

pub rejoin_node-requires-clause-there : goal.rejoin_node-requires-clause-there
rejoin_node-requires-clause-there g c = first_there _ _ _ _ c.requires c.into_parts-first.ensures

pub rejoin_node-requires-clause-returnable : goal.rejoin_node-requires-clause-returnable
rejoin_node-requires-clause-returnable g c = first_may _ _ _ _ c.requires c.into_parts-first.ensures

pub clones-init : goal.clones-init
clones-init g c = rejoins_first _ _ _ _ _ c.requires c.into_parts-first.ensures c.rejoin_node.ensures

pub unreachable-requires : goal.unreachable-requires
unreachable-requires g c =
    let size = rejoins_size _ _ _ _ _ c.clones.invariant in
    let all = ap length c.into_parts-first.ensures in
    let none = c.in_default.ensures.cases.0 in
    omega (arith, size, all, none)

pub rejoin_node-requires-in-clones-clause-there : goal.rejoin_node-requires-in-clones-clause-there
rejoin_node-requires-in-clones-clause-there g c = rejoins_there _ _ _ _ _ _ c.in-Some.next c.clones.invariant c.in-Some.ensures.items

pub rejoin_node-requires-in-clones-clause-returnable : goal.rejoin_node-requires-in-clones-clause-returnable
rejoin_node-requires-in-clones-clause-returnable g c = rejoins_may _ _ _ _ _ _ c.in-Some.next c.clones.invariant c.in-Some.ensures.items

pub clones-preserved : goal.clones-preserved
clones-preserved g c = rejoins_step _ _ _ _ _ _ _ c.in-Some.next c.clones.invariant c.in-Some.ensures.items c.rejoin_node-in-clones.ensures

pub returns : goal.returns
returns g c = rejoins_end _ _ _ _ _ c.clones.invariant (let size = ap length c.into_parts-first.ensures in omega (arith, size))
