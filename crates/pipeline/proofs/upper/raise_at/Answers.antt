use Rattle.std.proofs.Common.{◌≡◌, ◌∙◌, length, ap, arith}
use Rattle.std.proofs.lemmas.List.{length-map}
use Rattle.storage.specs.declared.release.NoOwner.{NoOwner}
use Rattle.buffer_model.specs.Segment.{Segment}
use Rattle.iobuf_chain.proofs.Lists.{turns_at}
use Rattle.pipeline.specs.Plain.{raised}
use Rattle.pipeline.specs.Nodes.{raised_node}
use Rattle.pipeline.proofs.Swapping.{set_at_most, back_at_most}
use Rattle.pipeline.proofs.upper.raise_at.Goals as goal

pub swap_node-node-requires-clause-sum : goal.swap_node-node-requires-clause-sum
swap_node-node-requires-clause-sum c =
    let most = set_at_most c.args.i c.args.frame.now c.wrap.result in
    let none : length c.wrap.result.window ≡ 0 = ap (λ (t : Segment NoOwner). length t.window) c.wrap.ensures in
    omega arith

pub swap_node-requires-clause-sum : goal.swap_node-requires-clause-sum
swap_node-requires-clause-sum c =
    let same : length c.raise_node.new.node.window ≡ length c.swap_node-node.result.window
    = ap (λ (t : Segment NoOwner). length t.window) c.raise_node.ensures ∙ length-map c.swap_node-node.result.window raised in
    let most = back_at_most c.args.i c.args.frame.now c.swap_node-node.new.self c.wrap.result c.swap_node-node.result c.raise_node.new.node
    c.swap_node-node.ensures.old c.swap_node-node.ensures.new (omega arith) in
    omega arith

pub returns : goal.returns
returns c =
    turns_at raised_node c.args.i c.wrap.result c.swap_node-node.result c.raise_node.new.node _ c.swap_node-node.new.self _ c.swap_node-node.ensures.old
    c.swap_node-node.ensures.new c.raise_node.ensures c.swap_node.ensures.new
