use Rattle.std.proofs.Common.{refl, ap, ◌∙◌, ◌++◌, ◌∷◌, []}
use Rattle.frame_rule.proofs.Moving.{gives_up_nothing, gives_up_back}
use Rattle.frame_rule.proofs.cuts.give_back.Goals as goal

pub returns-then-is_nothing-clause-moved : goal.returns-then-is_nothing-clause-moved
returns-then-is_nothing-clause-moved c =
    let is = c.is_nothing.ensures c.if-is_nothing.true in
    gives_up_nothing is.0 _ _ _ is.1 is.2 (refl, refl)

pub returns-clause-moved : goal.returns-clause-moved
returns-clause-moved c =
    gives_up_back _ _ _ c.give_back.result c.give_back.ensures.totals
    refl (c.push_reserved.ensures.items ∙ ap (λ w. w ++ c.give_back.result ∷ []) c.reserve.ensures.items)
