use Rattle.std.proofs.Common.{◌≡◌, List, ◌++◌, ◌∷◌, [], length, refl, ap, sym, subst, ◌∙◌, append-nil}
use Rattle.storage.specs.declared.release.NoOwner.{NoOwner}
use Rattle.buffer_model.specs.Segment.{Segment}
use Rattle.buffer_model.specs.Stake.{KeepsTotalsBeside}
use Rattle.iobuf_chain.specs.Accounts.{held_by}
use Rattle.frame_rule.specs.declared.haul.Haul.{Haul}
use Rattle.frame_rule.specs.Hauls.{hauled}
use Rattle.frame_rule.proofs.Moving.{cut_beside, cut_twice, cuts_further, gone_back, numbers_further, refused_totals}
use Rattle.frame_rule.proofs.cuts.cut_content.Goals as goal

pub returns-then-back-eq0-clause-totals : goal.returns-then-back-eq0-clause-totals
returns-then-back-eq0-clause-totals c = cut_beside _ _ _ _ c.args.haul.now c.args.haul.now c.cut_front.ensures.totals (refl, refl)

pub returns-in_err-content-clause-totals : goal.returns-in_err-content-clause-totals
returns-in_err-content-clause-totals c =
    let reserved : Haul = record { units = c.args.haul.now.units; back = c.reserve.new.self } in
    let P : List (Segment NoOwner) → Type 0 = λ w. KeepsTotalsBeside c.args.mint.now c.cut_front-2.new.mint (held_by c.args.chain.now ++ hauled c.args.haul.now) (held_by w ++ hauled reserved) in
    refused_totals _ _ _ _ _ c.from_residual-in_err-content.result c.from_residual-in_err-content.ensures.0
    (subst P (append-nil c.cut_front-2.new.chain) (cut_beside _ _ _ _ c.args.haul.now reserved c.in_err-content.ensures.totals (refl, c.reserve.ensures.items)))

pub returns-in-Ok-clause-totals : goal.returns-in-Ok-clause-totals
returns-in-Ok-clause-totals c =
    let now : Haul = record { units = c.args.haul.now.units; back = c.push_reserved.new.self } in
    gone_back _ _ _ _ c.in-Ok.ending c.args.haul.now now c.give_back.result
    (cut_twice _ _ _ _ _ _ c.in_ok-content.content c.in-Ok.ending c.in_ok-content.ensures.mint c.in-Ok.ensures.mint c.in_ok-content.ensures.totals c.in-Ok.ensures.totals)
    c.give_back.ensures.totals refl (c.push_reserved.ensures.items ∙ ap (λ w. w ++ c.give_back.result ∷ []) c.reserve.ensures.items)

pub returns-in-Ok-clause-mint : goal.returns-in-Ok-clause-mint
returns-in-Ok-clause-mint c = numbers_further _ _ _ c.in_ok-content.ensures.mint c.in-Ok.ensures.mint

pub returns-in-Err-clause-mint : goal.returns-in-Err-clause-mint
returns-in-Err-clause-mint c = numbers_further _ _ _ c.in_ok-content.ensures.mint c.in-Err.ensures.mint

pub returns-in-Err-clause-totals : goal.returns-in-Err-clause-totals
returns-in-Err-clause-totals c =
    let now : Haul = record { units = c.args.haul.now.units; back = c.push_reserved-in-Err.new.self } in
    let rest : List (Segment NoOwner) = c.cut_front-3.new.chain in
    let content : List (Segment NoOwner) = c.in_ok-content.content in
    let P : List (Segment NoOwner) → Type 0 = λ w. KeepsTotalsBeside c.args.mint.now c.cut_front-3.new.mint (held_by c.args.chain.now) (held_by w) in
    let turned : (rest ++ content) ++ [] ≡ (rest ++ []) ++ content = append-nil (rest ++ content) ∙ ap (λ w. w ++ content) (sym (append-nil rest)) in
    gone_back _ _ _ (rest ++ []) content c.args.haul.now now c.give_back-in-Err.result
    (subst P turned (cut_twice _ _ _ _ _ rest content [] c.in_ok-content.ensures.mint c.in-Err.ensures.mint c.in_ok-content.ensures.totals c.in-Err.ensures.totals))
    c.give_back-in-Err.ensures.totals refl (c.push_reserved-in-Err.ensures.items ∙ ap (λ w. w ++ c.give_back-in-Err.result ∷ []) c.reserve.ensures.items)

pub returns-in-Ok-clause-nodes : goal.returns-in-Ok-clause-nodes
returns-in-Ok-clause-nodes c = record {
  shares = λ heavy.
      let first = c.in_ok-content.ensures.nodes.shares heavy in
      cuts_further _ _ _ _ c.in-Ok.ending first (c.in-Ok.ensures.nodes.shares first.heavy);
  tight = λ tight.
      let first = c.in_ok-content.ensures.nodes.tight tight in
      (first.0, (c.in-Ok.ensures.nodes.tight first.1).1);
}
