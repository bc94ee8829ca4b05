-- Shares that are given back to the nodes that they were made of.
use Rattle.std.proofs.Common.{◌≡◌, ℕ, suc, zero, ◌+◌, ◌<◌, ◌≤◌, List, [], ◌∷◌, Option, Some, None, IsSome, slice_get, slice_set, refl, sym, ap, subst, ◌∙◌, arith, inl, inr}
use Rattle.std.specs.List.{AllZip}
use Rattle.std.proofs.lemmas.Option.{none-some}
use Rattle.share_count.specs.Weights.{full, part}
use Rattle.share_count.specs.Held.{Tally}
use Rattle.buffer_model.specs.Share.{Share, Held, IsManaged, rest_of, absorbed_in}
use Rattle.buffer_model.specs.Segment.{Segment, shared_as}
use Rattle.buffer_model.specs.Stake.{Storage, held, weight_at, weight_in, total, IsOfKind, KeepsTotals}
use Rattle.buffer_model.specs.Minted.{Numbers}
use Rattle.buffer_model.specs.Clones.{Clones}
use Rattle.storage.specs.declared.back.Back.{Back}
use Rattle.storage.specs.declared.back.Back.TheVariants.{Kept, Done, Ran, Lent, Tag, Nothing}
use Rattle.storage.specs.Back.{GivesBack, receipt_in}
use Rattle.iobuf_chain.specs.Accounts.{held_by}
use Rattle.iobuf_chain.specs.Shares.{Regains, IsReturnable, Rejoins}

part_most : (w : ℕ) → part w < full
part_most w = omega arith

part_within : (w : ℕ) → 2 ≤ w → part w ≤ w
part_within w h = omega arith

part_some : (w : ℕ) → 1 ≤ part w
part_some w = omega arith

module _ {O : Type 0} where
  -- what is handed back has the receipt for all that the hold has
  pub receipt_for : (runs : O → ℕ) (last : O → Option (List ℕ)) (h : Held O) (b : Back O) (r : Tally) → GivesBack runs last h b → receipt_in b ≡ Some r
      → (h.share.number ≡ Some r.number) × (h.share.table ≡ Some r.table) × (r.weight ≡ h.share.weight + h.share.absorbed)
  receipt_for runs last h (Kept q) r gives is = let same : q ≡ r = cc in subst (λ (x : Tally). (h.share.number ≡ Some x.number) × (h.share.table ≡ Some x.table) × (x.weight ≡ h.share.weight + h.share.absorbed)) same (gives.0.0, gives.0.1, gives.0.2)
  receipt_for runs last h (Done q) r gives is = let same : q ≡ r = cc in subst (λ (x : Tally). (h.share.number ≡ Some x.number) × (h.share.table ≡ Some x.table) × (x.weight ≡ h.share.weight + h.share.absorbed)) same (gives.0.0, gives.0.1, gives.0.2)
  receipt_for runs last h (Ran o q) r gives is = let same : q ≡ r = cc in subst (λ (x : Tally). (h.share.number ≡ Some x.number) × (h.share.table ≡ Some x.table) × (x.weight ≡ h.share.weight + h.share.absorbed)) same (gives.0.0, gives.0.1, gives.0.2)
  receipt_for runs last h (Lent block q) r gives is = let same : q ≡ r = cc in subst (λ (x : Tally). (h.share.number ≡ Some x.number) × (h.share.table ≡ Some x.table) × (x.weight ≡ h.share.weight + h.share.absorbed)) same (gives.0.0, gives.0.1, gives.0.2)
  receipt_for runs last h (Tag t q) r gives is = let same : q ≡ r = cc in subst (λ (x : Tally). (h.share.number ≡ Some x.number) × (h.share.table ≡ Some x.table) × (x.weight ≡ h.share.weight + h.share.absorbed)) same (gives.0.0, gives.0.1, gives.0.2)
  receipt_for runs last h Nothing r gives is = absurd (none-some r is)

  -- a clone may be given back to its node
  pub clone_returns : (old new : Numbers) (before after clone : Segment O) → Clones old new before after clone → IsReturnable after.share clone.share
  clone_returns old new before after clone is =
      elim is.shares [
        | inl (same, splits) ↦ elim splits [
          | inl w ↦ inl (ap (λ (s : Share O). s.number) w.2 ∙ w.0)
          | inr w ↦ inr (inr (ap (λ (s : Share O). s.number) w.2 ∙ sym (ap (λ (s : Share O). s.number) w.1), ap (λ (s : Share O). s.table) w.2 ∙ sym (ap (λ (s : Share O). s.table) w.1)))
        ]
        | inr (adds, renews) ↦ inr (inl (let w = renews.2.weight in let a = renews.2.absorbed in omega (arith, w, a)))
      ]

  pub unmanaged : (s : Share O) → s.number ≡ None → IsManaged s → ⊥
  unmanaged s none managed = let P : Option ℕ → Type 0 = λ o. IsSome o in let never = subst P none managed in cc

  regain_at : (before after : Segment O) (k : Share O) → after ≡ shared_as k before → k.number ≡ before.share.number → k.table ≡ before.share.table
      → k.way ≡ before.share.way → k.weight + k.absorbed ≡ before.share.weight + before.share.absorbed → Regains before after
  regain_at before after k is number table way weight =
      let P : Segment O → Type 0 = λ t. Regains before t in
      subst P (sym is) record { lists = refl; number = number; table = table; way = way; weight = weight }

  pub regains_same : (s t : Segment O) → t ≡ s → Regains s t
  regains_same s t is = regain_at s t s.share is refl refl refl refl

  -- a node whose clone was given back is as before
  pub clone_regains : (old new : Numbers) (before mid clone after : Segment O) → Clones old new before mid clone → Rejoins mid clone.share after → Regains before after
  clone_regains old new before mid clone after is back =
      let kept : after ≡ mid → mid.share ≡ before.share → Regains before after
      = λ e same. regain_at before after mid.share (e ∙ is.lists) (ap (λ (s : Share O). s.number) same) (ap (λ (s : Share O). s.table) same)
      (ap (λ (s : Share O). s.way) same) (ap (λ (s : Share O). s.weight + s.absorbed) same) in
      elim is.shares [
        | inl (same, splits) ↦ elim splits [
          | inl w ↦ elim back [
            | inl (e, none) ↦ kept e w.1
            | inr (e, other, managed) ↦ absurd (unmanaged clone.share (ap (λ (s : Share O). s.number) w.2 ∙ w.0) managed)
          ]
          | inr w ↦ elim back [
            | inl (e, none) ↦ elim none [
              | inl nothing ↦ absurd (
                  let k : clone.share.weight + clone.share.absorbed ≡ part before.share.weight + 0 = ap (λ (s : Share O). s.weight + s.absorbed) w.2 in
                  let some = part_some before.share.weight in
                  omega (arith, k, some))
              | inr whole ↦ absurd (
                  let k : clone.share.weight + clone.share.absorbed ≡ part before.share.weight + 0 = ap (λ (s : Share O). s.weight + s.absorbed) w.2 in
                  let most = part_most before.share.weight in
                  omega (arith, k, most))
            ]
            | inr (e, part_is, managed) ↦
                let given : clone.share.weight + clone.share.absorbed ≡ part before.share.weight + 0 = ap (λ (s : Share O). s.weight + s.absorbed) w.2 in
                let within = part_within before.share.weight w.0 in
                let rest : Share O = absorbed_in (clone.share.weight + clone.share.absorbed) (rest_of before.share) in
                regain_at before after rest
                (e ∙ ap (λ (s : Share O). shared_as (absorbed_in (clone.share.weight + clone.share.absorbed) s) mid) w.1 ∙ ap (λ t. shared_as rest t) is.lists)
                refl refl refl (omega (arith, given, within))
          ]
        ]
        | inr (adds, renews) ↦ elim back [
          | inl (e, none) ↦ kept e renews.1
          | inr (e, part_is, managed) ↦ absurd (part_is (let w = renews.2.weight in let a = renews.2.absorbed in omega (arith, w, a)))
        ]
      ]

  regains_weight : (n : Storage) (s t : Segment O) → Regains s t → weight_in n (held t.share) ≡ weight_in n (held s.share)
  regains_weight n s t r =
      ap (λ (o : Option ℕ). weight_at n o t.share.table (t.share.weight + t.share.absorbed)) r.number
      ∙ ap (λ o. weight_at n s.share.number o (t.share.weight + t.share.absorbed)) r.table
      ∙ ap (λ (w : ℕ). weight_at n s.share.number s.share.table w) r.weight

  pub regains_keep : (xs ys : List (Segment O)) → AllZip Regains xs ys → KeepsTotals (held_by xs) (held_by ys)
  regains_keep [] [] all n = record { total = refl; way = λ kind is. tt }
  regains_keep [] (y ∷ ys) all n = absurd all
  regains_keep (x ∷ xs) [] all n = absurd all
  regains_keep (x ∷ xs) (y ∷ ys) all n =
      let more = regains_keep xs ys all.1 n in record {
        total = ap (λ (w : ℕ). w + total n (held_by ys)) (regains_weight n x y all.0) ∙ ap (λ (w : ℕ). weight_in n (held x.share) + w) more.total;
        way = λ kind is. ((λ at. subst (λ w. IsOfKind kind w) (sym all.0.way) (is.0 (sym all.0.number ∙ at.0, sym all.0.table ∙ at.1))), more.way kind is.1);
      }

  each_itself : (xs : List (Segment O)) → AllZip Regains xs xs
  each_itself [] = tt
  each_itself (x ∷ xs) = (regains_same x x refl, each_itself xs)

  pub regains_each : (xs ys : List (Segment O)) → ys ≡ xs → AllZip Regains xs ys
  regains_each xs ys is = let P : List (Segment O) → Type 0 = λ zs. AllZip Regains xs zs in subst P (sym is) (each_itself xs)

  -- one node of a list regained what it had
  pub regains_at : (i : ℕ) (xs : List (Segment O)) (x y : Segment O) → slice_get xs i ≡ Some x → Regains x y → AllZip Regains xs (slice_set xs i y)
  regains_at i [] x y is r = absurd (none-some x is)
  regains_at zero (z ∷ zs) x y is r = let same : z ≡ x = cc in (subst (λ w. Regains w y) (sym same) r, each_itself zs)
  regains_at (suc i) (z ∷ zs) x y is r = (regains_same z z refl, regains_at i zs x y is r)
