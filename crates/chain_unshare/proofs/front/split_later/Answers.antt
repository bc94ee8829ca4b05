use Rattle.std.proofs.Common.{◌≡◌, ℕ, ◌-◌, ◌∙◌, min, length, take, drop, sym, ap, arith, length-drop}
use Rattle.std.proofs.lemmas.List.{length-take, take-append-drop}
use Rattle.buffer_model.specs.Segment.{Segment, trimmed_end}
use Rattle.iobuf_chain.proofs.Rejoined.{regains_same, clone_regains}
use Rattle.chain_unshare.proofs.Splitting.{set_at_most, set_back, cut_sum, rest_sum, back_in, refused_keeps, stops_there, node_splits, node_keeps, rejoins_window, rejoins_as, clone_adds}
use Rattle.chain_unshare.proofs.front.split_later.Goals as goal

pub swap_node-node-requires-clause-sum : goal.swap_node-node-requires-clause-sum
swap_node-node-requires-clause-sum g c =
    let most = set_at_most c.args.i c.args.c.now c.empty.result in
    let none : length c.empty.result.window ≡ 0 = ap (λ (t : Segment g.row.O.Denot). length t.window) c.empty.ensures in
    omega arith

pub swap_node-requires-clause-sum : goal.swap_node-requires-clause-sum
swap_node-requires-clause-sum g c =
    let same : length c.clone_one.new.self.window ≡ length c.swap_node-node.result.window = ap (λ (t : Segment g.row.O.Denot). length t.window) c.in_default.ensures.refused.0 in
    let most = set_back c.args.i c.args.c.now c.swap_node-node.new.self c.empty.result c.swap_node-node.result c.clone_one.new.self
    c.swap_node-node.ensures.old c.swap_node-node.ensures.new (omega arith) in
    omega arith

pub returns-in_default-clause-refused : goal.returns-in_default-clause-refused
returns-in_default-clause-refused g c =
    back_in c.args.i c.args.c.now c.swap_node-node.new.self c.swap_node.new.self c.empty.result c.swap_node-node.result c.clone_one.new.self
    c.swap_node-node.ensures.old c.swap_node-node.ensures.new c.swap_node.ensures.new (regains_same _ _ c.in_default.ensures.refused.0)

pub returns-in_default-clause-totals : goal.returns-in_default-clause-totals
returns-in_default-clause-totals g c =
    refused_keeps c.args.mint.now _ c.args.c.now c.swap_node.new.self
    (back_in c.args.i c.args.c.now c.swap_node-node.new.self c.swap_node.new.self c.empty.result c.swap_node-node.result c.clone_one.new.self
    c.swap_node-node.ensures.old c.swap_node-node.ensures.new c.swap_node.ensures.new (regains_same _ _ c.in_default.ensures.refused.0))

pub overflow_sub-length : goal.overflow_sub-length
overflow_sub-length g c =
    let low = stops_there c.args.k c.args.i c.args.c.now c.swap_node-node.result c.requires.within c.swap_node-node.ensures.old in
    let same : length c.clone_one.new.self.window ≡ length c.swap_node-node.result.window = ap (λ (t : Segment g.row.O.Denot). length t.window) c.in-Ok.ensures.clone.lists in
    omega arith

pub cut_before-requires-clause-sum : goal.cut_before-requires-clause-sum
cut_before-requires-clause-sum g c =
    let short : length c.trim_end.new.self.window ≡ min (length c.in-Ok.clone.window - (c.length.result - c.args.k)) (length c.in-Ok.clone.window)
    = ap (λ (t : Segment g.row.O.Denot). length t.window) c.trim_end.ensures.window ∙ length-take (length c.in-Ok.clone.window - (c.length.result - c.args.k)) c.in-Ok.clone.window in
    let same : length c.in-Ok.clone.window ≡ length c.swap_node-node.result.window = ap (λ (t : Segment g.row.O.Denot). length t.window) c.in-Ok.ensures.clone.clone_lists in
    let most = cut_sum c.args.i c.args.c.now c.swap_node-node.new.self c.empty.result c.swap_node-node.result c.swap_node-node.ensures.old c.swap_node-node.ensures.new in
    omega arith

pub trim_start-requires : goal.trim_start-requires
trim_start-requires g c =
    let low = stops_there c.args.k c.args.i c.args.c.now c.swap_node-node.result c.requires.within c.swap_node-node.ensures.old in
    let same : length c.clone_one.new.self.window ≡ length c.swap_node-node.result.window = ap (λ (t : Segment g.row.O.Denot). length t.window) c.in-Ok.ensures.clone.lists in
    omega arith

pub swap_node-requires-in-Ok-cut_before-clause-sum : goal.swap_node-requires-in-Ok-cut_before-clause-sum
swap_node-requires-in-Ok-cut_before-clause-sum g c =
    let long : length c.trim_start.new.self.window ≡ length c.clone_one.new.self.window - c.args.k
    = ap (λ (t : Segment g.row.O.Denot). length t.window) c.trim_start.ensures.window ∙ length-drop c.args.k c.clone_one.new.self.window in
    let same : length c.clone_one.new.self.window ≡ length c.swap_node-node.result.window = ap (λ (t : Segment g.row.O.Denot). length t.window) c.in-Ok.ensures.clone.lists in
    let most = rest_sum c.args.i c.args.c.now c.swap_node-node.new.self c.cut_before.new.self c.empty.result c.swap_node-node.result c.trim_start.new.self
    c.swap_node-node.ensures.old c.swap_node-node.ensures.new c.in-Ok-cut_before.ensures.front.1 c.requires.there (omega arith) in
    omega arith

pub swap_node-requires-in-Err-clause-sum : goal.swap_node-requires-in-Err-clause-sum
swap_node-requires-in-Err-clause-sum g c =
    let kept : length c.rejoin.new.node.window ≡ length c.clone_one.new.self.window = ap length (rejoins_window c.clone_one.new.self c.rejoin.new.node c.in-Err.clone.share c.rejoin.ensures) in
    let same : length c.clone_one.new.self.window ≡ length c.swap_node-node.result.window = ap (λ (t : Segment g.row.O.Denot). length t.window) c.in-Ok.ensures.clone.lists in
    let most = set_back c.args.i c.args.c.now c.cut_before.new.self c.empty.result c.swap_node-node.result c.rejoin.new.node
    c.swap_node-node.ensures.old (c.in-Err.ensures.front.1 ∙ c.swap_node-node.ensures.new) (omega arith) in
    omega arith

pub returns-in-Ok-cut_before-clause-parts : goal.returns-in-Ok-cut_before-clause-parts
returns-in-Ok-cut_before-clause-parts g c =
    let same : c.length.result ≡ length c.swap_node-node.result.window = c.length.ensures ∙ ap (λ (t : Segment g.row.O.Denot). length t.window) c.in-Ok.ensures.clone.lists in
    node_splits c.args.i c.args.k _ _ c.args.c.now c.swap_node-node.new.self _ c.cut_before.new.self _ c.empty.result c.swap_node-node.result c.clone_one.new.self
    c.in-Ok.clone c.trim_end.new.self c.trim_start.new.self c.swap_node-node.ensures.old c.swap_node-node.ensures.new c.in-Ok.ensures.clone
    (c.trim_end.ensures.window ∙ ap (λ (m : ℕ). trimmed_end (m - c.args.k) c.in-Ok.clone) same) c.trim_start.ensures.window c.in-Ok-cut_before.ensures.front.0
    c.in-Ok-cut_before.ensures.front.1 c.swap_node-in-Ok-cut_before.ensures.new c.requires.there

pub returns-in-Ok-cut_before-clause-totals : goal.returns-in-Ok-cut_before-clause-totals
returns-in-Ok-cut_before-clause-totals g c =
    let same : c.length.result ≡ length c.swap_node-node.result.window = c.length.ensures ∙ ap (λ (t : Segment g.row.O.Denot). length t.window) c.in-Ok.ensures.clone.lists in
    node_keeps c.args.k _ _ c.args.c.now (take c.args.i c.args.c.now) (drop c.args.i c.args.c.now) _ _ (sym (take-append-drop c.args.i c.args.c.now))
    (node_splits c.args.i c.args.k _ _ c.args.c.now c.swap_node-node.new.self _ c.cut_before.new.self _ c.empty.result c.swap_node-node.result c.clone_one.new.self
    c.in-Ok.clone c.trim_end.new.self c.trim_start.new.self c.swap_node-node.ensures.old c.swap_node-node.ensures.new c.in-Ok.ensures.clone
    (c.trim_end.ensures.window ∙ ap (λ (m : ℕ). trimmed_end (m - c.args.k) c.in-Ok.clone) same) c.trim_start.ensures.window c.in-Ok-cut_before.ensures.front.0
    c.in-Ok-cut_before.ensures.front.1 c.swap_node-in-Ok-cut_before.ensures.new c.requires.there)

pub returns-in-Err-clause-refused : goal.returns-in-Err-clause-refused
returns-in-Err-clause-refused g c =
    let share = ap (λ (t : Segment g.row.O.Denot). t.share) (c.in-Err.ensures.front.0 ∙ c.trim_end.ensures.window) in
    back_in c.args.i c.args.c.now c.cut_before.new.self c.swap_node-in-Err.new.self c.empty.result c.swap_node-node.result c.rejoin.new.node
    c.swap_node-node.ensures.old (c.in-Err.ensures.front.1 ∙ c.swap_node-node.ensures.new) c.swap_node-in-Err.ensures.new
    (clone_regains _ _ _ _ c.in-Ok.clone _ c.in-Ok.ensures.clone (rejoins_as _ _ _ c.in-Ok.clone.share share c.rejoin.ensures))

pub returns-in-Err-clause-totals : goal.returns-in-Err-clause-totals
returns-in-Err-clause-totals g c =
    let share = ap (λ (t : Segment g.row.O.Denot). t.share) (c.in-Err.ensures.front.0 ∙ c.trim_end.ensures.window) in
    refused_keeps c.args.mint.now _ c.args.c.now c.swap_node-in-Err.new.self
    (back_in c.args.i c.args.c.now c.cut_before.new.self c.swap_node-in-Err.new.self c.empty.result c.swap_node-node.result c.rejoin.new.node
    c.swap_node-node.ensures.old (c.in-Err.ensures.front.1 ∙ c.swap_node-node.ensures.new) c.swap_node-in-Err.ensures.new
    (clone_regains _ _ _ _ c.in-Ok.clone _ c.in-Ok.ensures.clone (rejoins_as _ _ _ c.in-Ok.clone.share share c.rejoin.ensures)))

pub returns-in-Ok-cut_before-clause-mint : goal.returns-in-Ok-cut_before-clause-mint
returns-in-Ok-cut_before-clause-mint g c = clone_adds _ _ _ _ _ c.in-Ok.ensures.clone
