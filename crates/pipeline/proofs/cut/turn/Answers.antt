use Rattle.std.proofs.Common.{◌≡◌, length, ap, ◌∙◌, arith}
use Rattle.storage.specs.declared.release.NoOwner.{NoOwner}
use Rattle.buffer_model.specs.Segment.{Segment, trimmed_end}
use Rattle.pipeline.proofs.Swapping.{set_at_most, back_at_most, trimmed_shorter, turns_many, turns_one}
use Rattle.pipeline.proofs.cut.turn.Goals as goal

pub swap_node-node-requires-clause-sum : goal.swap_node-node-requires-clause-sum
swap_node-node-requires-clause-sum c =
    let most = set_at_most 0 c.args.frame.now c.wrap.result in
    let none : length c.wrap.result.window ≡ 0 = ap (λ (t : Segment NoOwner). length t.window) c.wrap.ensures in
    omega arith

pub swap_node-requires-clause-sum : goal.swap_node-requires-clause-sum
swap_node-requires-clause-sum c =
    let trimmed = c.trim_end.ensures.window ∙ ap (λ t. trimmed_end c.args.back t) c.trim_start.ensures.window in
    let most = back_at_most 0 c.args.frame.now c.swap_node-node.new.self c.wrap.result c.swap_node-node.result c.trim_end.new.self
    c.swap_node-node.ensures.old c.swap_node-node.ensures.new
    (trimmed_shorter c.args.front c.args.back c.swap_node-node.result c.trim_end.new.self trimmed) in
    omega arith

pub returns-then-count-gt1 : goal.returns-then-count-gt1
returns-then-count-gt1 c =
    turns_many _ _ _ _ _ _ c.swap_node-node.result c.wrap.result c.trim_end.new.self c.swap_node-node.ensures.old c.swap_node-node.ensures.new
    c.swap_node.ensures.new (c.trim_end.ensures.window ∙ ap (λ t. trimmed_end c.args.back t) c.trim_start.ensures.window) c.rotate.ensures.nodes

pub returns-else-count-gt1 : goal.returns-else-count-gt1
returns-else-count-gt1 c =
    turns_one _ _ _ _ _ c.swap_node-node.result c.wrap.result c.trim_end.new.self c.swap_node-node.ensures.old c.swap_node-node.ensures.new
    c.swap_node.ensures.new (c.trim_end.ensures.window ∙ ap (λ t. trimmed_end c.args.back t) c.trim_start.ensures.window)
    (let few = c.if-count-gt1.false in let count = c.elements-count.ensures.count in omega (arith, few, count))
