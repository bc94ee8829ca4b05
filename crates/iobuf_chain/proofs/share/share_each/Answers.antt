use Rattle.std.proofs.Common.{◌≡◌, ◌≤◌, length, arith}
use Rattle.iobuf_chain.proofs.Shared.{shares_size, shares_total, shares_step, shares_end}
use Rattle.iobuf_chain.proofs.share.share_each.Goals as goal

pub share_node-requires : goal.share_node-requires
share_node-requires g c =
    let size = shares_total _ _ _ _ _ _ c.nodes.invariant.shares in
    omega (arith, size)

pub push_back_reserved-requires : goal.push_back_reserved-requires
push_back_reserved-requires g c =
    let size = shares_size _ _ _ _ _ _ c.nodes.invariant.shares in
    let room = c.nodes.invariant.room in
    omega (arith, size.1, room)

pub nodes-preserved : goal.nodes-preserved
nodes-preserved g c =
    let same = c.push_back_reserved.ensures.capacity in
    let room = c.nodes.invariant.room in
    record {
      shares = shares_step _ _ _ _ _ _ _ _ _ c.in-Ok.clone c.nodes.invariant.shares c.in-Ok.ensures.shares c.push_back_reserved.ensures.items;
      room = omega (arith, same, room);
    }

pub returns-clause-shares : goal.returns-clause-shares
returns-clause-shares g c =
    let size = shares_total _ _ _ _ _ _ c.nodes.invariant.shares in
    shares_end _ _ _ _ _ _ c.nodes.invariant.shares (omega (arith, size))
