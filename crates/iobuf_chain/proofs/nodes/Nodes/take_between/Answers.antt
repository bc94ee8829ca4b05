use Rattle.std.proofs.Common.{◌≡◌, suc, ◌+◌, ◌-◌, ◌∷◌, ◌++◌, ◌∙◌, length, take, drop, ap, arith, deque_len}
use Rattle.iobuf_chain.proofs.Lists.{taken_first, left_first, taken_later, left_later}
use Rattle.iobuf_chain.proofs.nodes.Nodes.take_between.Goals as goal

pub returns-then-i-eq0-clause-taken : goal.returns-then-i-eq0-clause-taken
returns-then-i-eq0-clause-taken g c =
    c.leave.ensures.0
    ∙ ap (λ ys. c.self.inside.first ∷ ys)
    (c.move_front.ensures.taken ∙ ap (λ ys. ys ++ take (c.args.j - c.args.i - 1) c.self.inside.rest.items) c.in_ok-taken.ensures.items)
    ∙ taken_first _ _ (c.args.j - c.args.i - 1) _ _ _ c.if-i-eq0.true (omega arith) c.self.view_is

pub returns-then-i-eq0-clause-left : goal.returns-then-i-eq0-clause-left
returns-then-i-eq0-clause-left g c =
    c.leave.ensures.1 ∙ c.move_front.ensures.left
    ∙ left_first _ _ (c.args.j - c.args.i - 1) _ _ _ c.if-i-eq0.true (omega arith) c.self.view_is

pub returns-clause-taken : goal.returns-clause-taken
returns-clause-taken g c =
    let sizes : suc (length c.self.inside.rest.items) ≡ length c.args.self.now = ap length c.self.view_is in
    ap (λ ys. c.in-Some.first ∷ ys)
    (c.move_front-2.ensures.taken ∙ ap (λ ys. ys ++ take (c.args.j - c.args.i - 1) c.pop_front.new.self.items) c.in_ok-taken.ensures.items)
    ∙ taken_later _ _ (c.args.i - 1) (c.args.j - c.args.i - 1) _ _ _ _ _ _ (omega arith) (omega arith) (omega arith)
    c.rotate_left.ensures.items c.in-Some.ensures.items c.self.view_is

pub returns-clause-left : goal.returns-clause-left
returns-clause-left g c =
    let sizes : suc (length c.self.inside.rest.items) ≡ length c.args.self.now = ap length c.self.view_is in
    left_later _ _ (c.args.i - 1) (c.args.j - c.args.i - 1) (deque_len c.move_front-2.new.from - (c.args.i - 1)) _ c.in-Some.first _ _ _ _ _ _
    (omega arith) (omega arith) (omega arith) c.rotate_left.ensures.items c.in-Some.ensures.items c.move_front-2.ensures.left (omega arith)
    c.rotate_right.ensures.items c.self.view_is
