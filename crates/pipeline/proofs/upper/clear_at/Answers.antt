use Rattle.std.proofs.Common.{◌≡◌, [], ◌∷◌, length, ap, sym, arith}
use Rattle.std.proofs.lemmas.List.{append-nil}
use Rattle.storage.specs.declared.release.NoOwner.{NoOwner}
use Rattle.buffer_model.specs.Segment.{Segment}
use Rattle.pipeline.proofs.Swapping.{set_at_most, back_at_most}
use Rattle.pipeline.proofs.Clearing.{clears_at, alone_at}
use Rattle.pipeline.proofs.upper.clear_at.Goals as goal

pub swap_node-node-requires-clause-sum : goal.swap_node-node-requires-clause-sum
swap_node-node-requires-clause-sum c =
    let most = set_at_most c.args.i c.args.frame.now c.wrap.result in
    let none : length c.wrap.result.window ≡ 0 = ap (λ (t : Segment NoOwner). length t.window) c.wrap.ensures in
    omega arith

pub swap_node-requires-clause-sum : goal.swap_node-requires-clause-sum
swap_node-requires-clause-sum c =
    let same : length c.clear-cleared.new.node.window ≡ length c.swap_node-node.result.window
    = ap (λ (t : Segment NoOwner). length t.window) c.clear-cleared.ensures.clears.lists in
    let most = back_at_most c.args.i c.args.frame.now c.swap_node-node.new.self c.wrap.result c.swap_node-node.result c.clear-cleared.new.node
    c.swap_node-node.ensures.old c.swap_node-node.ensures.new (omega arith) in
    omega arith

pub returns-in-Ok-None-clause-clears : goal.returns-in-Ok-None-clause-clears
returns-in-Ok-None-clause-clears c =
    clears_at c.args.i _ _ _ c.swap_node-node.new.self _ c.wrap.result c.swap_node-node.result c.clear-cleared.new.node [] _ _
    c.swap_node-node.ensures.old c.swap_node-node.ensures.new c.swap_node.ensures.new
    (rw c.in-Ok-None.field-0-is at c.in-Ok-None.ensures.clears) (sym (append-nil _))

pub returns-in-Ok-None-clause-alone : goal.returns-in-Ok-None-clause-alone
returns-in-Ok-None-clause-alone c =
    alone_at c.args.i _ c.swap_node-node.new.self _ c.wrap.result c.clear-cleared.new.node c.requires.there c.swap_node-node.ensures.new
    c.swap_node.ensures.new c.in-Ok-None.ensures.alone

pub returns-in-Ok-Some-clause-clears : goal.returns-in-Ok-Some-clause-clears
returns-in-Ok-Some-clause-clears c =
    clears_at c.args.i _ _ _ c.swap_node-node.new.self _ c.wrap.result c.swap_node-node.result c.clear-cleared.new.node (c.in-Ok-Some.back ∷ []) _ _
    c.swap_node-node.ensures.old c.swap_node-node.ensures.new c.swap_node.ensures.new
    (rw c.in-Ok-Some.field-0-is at c.in-Ok-Some.ensures.clears) c.push_back_reserved.ensures.items

pub returns-in-Ok-Some-clause-alone : goal.returns-in-Ok-Some-clause-alone
returns-in-Ok-Some-clause-alone c =
    alone_at c.args.i _ c.swap_node-node.new.self _ c.wrap.result c.clear-cleared.new.node c.requires.there c.swap_node-node.ensures.new
    c.swap_node.ensures.new c.in-Ok-Some.ensures.alone

pub returns-in-Err-clause-clears : goal.returns-in-Err-clause-clears
returns-in-Err-clause-clears c =
    clears_at c.args.i _ _ _ c.swap_node-node.new.self _ c.wrap.result c.swap_node-node.result c.clear-cleared.new.node [] _ _
    c.swap_node-node.ensures.old c.swap_node-node.ensures.new c.swap_node.ensures.new c.in-Err.ensures.clears (sym (append-nil _))
