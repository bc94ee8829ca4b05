use Rattle.std.proofs.Common.{◌≡◌, ◌<◌, ◌∙◌, min, length, ap, arith}
use Rattle.iobuf_chain.proofs.TrimmedEnds.{back_there, back_steps, back_ends}
use Rattle.iobuf_chain.proofs.trims.trim_back.Goals as goal

pub nodes-preserved : goal.nodes-preserved
nodes-preserved g c =
    let there = back_there _ _ _ _ _ c.nodes.invariant c.nodes-test.true in
    back_steps _ c.nodes.i _ _ _ _ _ _ c.get.result.now c.nodes.invariant (omega (arith, there)) c.get.ensures
    (c.min-k.ensures ∙ ap (min c.nodes.left) c.length.ensures) c.trim_node_end.ensures

pub returns : goal.returns
returns g c = back_ends _ _ _ _ _ c.nodes.invariant (omega arith)
