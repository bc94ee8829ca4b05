use Rattle.std.proofs.Common.{◌≡◌, ◌<◌, ◌∙◌, min, length, ap, arith}
use Rattle.iobuf_chain.proofs.TrimmedEnds.{front_there, front_size, front_steps, front_ends}
use Rattle.iobuf_chain.proofs.trims.trim_front.Goals as goal

pub prove-unreachable-requires : goal.prove-unreachable-requires
prove-unreachable-requires g c =
    let there = front_there _ _ _ _ _ c.nodes.invariant c.nodes-test.true in
    let size = front_size _ _ _ _ _ c.nodes.invariant in
    omega (arith, there, size)

pub nodes-preserved : goal.nodes-preserved
nodes-preserved g c =
    front_steps _ _ _ _ _ _ _ c.get.result.now c.nodes.invariant c.get.ensures (c.min-k.ensures ∙ ap (min c.nodes.left) c.length.ensures)
    c.trim_node_start.ensures

pub returns : goal.returns
returns g c = front_ends _ _ _ _ _ c.nodes.invariant (omega arith)
