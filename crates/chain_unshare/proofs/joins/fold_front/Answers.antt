use Rattle.std.proofs.Common.{◌-◌, length, ap, ◌∙◌, arith}
use Rattle.buffer_model.specs.Segment.{Segment}
use Rattle.chain_unshare.proofs.Splitting.{set_at_most, set_back, cut_sum}
use Rattle.chain_unshare.proofs.Joining.{folded, left_in_front, folded_sum, put_back, backs_of, totals_of}
use Rattle.chain_unshare.proofs.joins.fold_front.Goals as goal

pub swap_node-last-requires-clause-sum : goal.swap_node-last-requires-clause-sum
swap_node-last-requires-clause-sum g c =
    let most = set_at_most (c.args.k - 1) c.args.c.now c.empty.result in
    let none = ap (λ (t : Segment g.row.O.Denot). length t.window) c.empty.ensures in
    omega arith

pub cut_before-requires-clause-sum : goal.cut_before-requires-clause-sum
cut_before-requires-clause-sum g c =
    let most = cut_sum (c.args.k - 1) c.args.c.now c.swap_node-last.new.self c.empty.result c.swap_node-last.result c.swap_node-last.ensures.old c.swap_node-last.ensures.new in
    omega arith

pub swap_node-requires-clause-sum : goal.swap_node-requires-clause-sum
swap_node-requires-clause-sum g c =
    let most = folded_sum (c.args.k - 1) c.args.k _ _ c.args.c.now c.swap_node-last.new.self c.cut_before.new.self c.empty.result c.in_ok-node.node (omega arith) (omega arith)
    c.swap_node-last.ensures.new c.in-Ok.ensures.front.1 c.in_ok-node.ensures.node in
    omega arith

pub swap_node-requires-in-Err-clause-sum : goal.swap_node-requires-in-Err-clause-sum
swap_node-requires-in-Err-clause-sum g c =
    let same = ap (λ (t : Segment g.row.O.Denot). length t.window) c.in-Err.ensures.front.0 in
    let most = set_back (c.args.k - 1) c.args.c.now c.cut_before.new.self c.empty.result c.swap_node-last.result c.in-Err.last
    c.swap_node-last.ensures.old (c.in-Err.ensures.front.1 ∙ c.swap_node-last.ensures.new) (omega arith) in
    omega arith

pub returns-in-Ok-clause-node : goal.returns-in-Ok-clause-node
returns-in-Ok-clause-node g c = record {
  node = c.in_ok-node.node;
  joins = c.in_ok-node.ensures.node;
  after_is = folded (c.args.k - 1) c.args.k c.args.c.now c.swap_node-last.new.self c.cut_before.new.self c.swap_node.new.self c.empty.result c.in_ok-node.node
      (omega arith) (omega arith) c.swap_node-last.ensures.new c.in-Ok.ensures.front.1 c.swap_node.ensures.new;
}

pub returns-in-Ok-clause-backs : goal.returns-in-Ok-clause-backs
returns-in-Ok-clause-backs g c =
    backs_of g.O.Release.runs g.O.Release.last c.in-Ok.front _ c.give_back.result
    (left_in_front (c.args.k - 1) c.args.k c.args.c.now c.swap_node-last.new.self c.in-Ok.front c.empty.result c.swap_node-last.result (omega arith)
    c.swap_node-last.ensures.old c.swap_node-last.ensures.new c.in-Ok.ensures.front.0) c.give_back.ensures.backs

pub returns-in-Ok-clause-totals : goal.returns-in-Ok-clause-totals
returns-in-Ok-clause-totals g c =
    totals_of c.in-Ok.front _ c.give_back.result
    (left_in_front (c.args.k - 1) c.args.k c.args.c.now c.swap_node-last.new.self c.in-Ok.front c.empty.result c.swap_node-last.result (omega arith)
    c.swap_node-last.ensures.old c.swap_node-last.ensures.new c.in-Ok.ensures.front.0) c.give_back.ensures.totals

pub returns-in-Err-clause-refused : goal.returns-in-Err-clause-refused
returns-in-Err-clause-refused g c =
    put_back (c.args.k - 1) c.args.c.now c.swap_node-last.new.self c.cut_before.new.self c.swap_node-in-Err.new.self c.empty.result c.swap_node-last.result c.in-Err.last
    c.swap_node-last.ensures.old c.swap_node-last.ensures.new c.in-Err.ensures.front.1 c.in-Err.ensures.front.0 c.swap_node-in-Err.ensures.new
