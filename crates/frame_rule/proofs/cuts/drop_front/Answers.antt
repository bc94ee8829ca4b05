use Rattle.std.proofs.Common.{refl, ap, ◌∙◌, ◌++◌, ◌∷◌, []}
use Rattle.frame_rule.proofs.Moving.{moves_none, moves_back, shares_back}
use Rattle.frame_rule.proofs.Tight.{adds_none}
use Rattle.frame_rule.proofs.cuts.drop_front.Goals as goal

pub returns-in_err-front-clause-moves : goal.returns-in_err-front-clause-moves
returns-in_err-front-clause-moves c =
    moves_none _ _ _ _ _ _ c.in_err-front.ensures.totals c.in_err-front.ensures.mint (refl, c.reserve.ensures.items)

pub returns-clause-moves : goal.returns-clause-moves
returns-clause-moves c =
    moves_back _ _ _ _ c.in_ok-front.front _ _ c.give_back.result c.in_ok-front.ensures.totals c.in_ok-front.ensures.mint c.give_back.ensures.totals
    refl (c.push_reserved.ensures.items ∙ ap (λ w. w ++ c.give_back.result ∷ []) c.reserve.ensures.items)

pub returns-clause-nodes : goal.returns-clause-nodes
returns-clause-nodes c = record {
  shares = λ heavy. shares_back _ c.in_ok-front.front _ _ _ (c.in_ok-front.ensures.nodes.shares heavy) refl;
  tight = λ tight. ((c.in_ok-front.ensures.nodes.tight tight).1, adds_none _ _ refl);
}
