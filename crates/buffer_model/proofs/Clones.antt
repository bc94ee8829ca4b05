-- Clones of windows.
use Rattle.std.proofs.Common.{◌≡◌, ◌⊎◌, ℕ, ◌≤◌, [], ◌∷◌, length, sym, refl, ap, subst, ◌∙◌, inl, inr, arith}
use Rattle.share_count.specs.Held.{Tally}
use Rattle.buffer_model.specs.Share.{Share, own, rest_of, part_of, IsOfStorage}
use Rattle.buffer_model.specs.Segment.{Segment, shared_as}
use Rattle.buffer_model.specs.Stake.{held, KeepsTotalsBeside}
use Rattle.buffer_model.specs.Minted.{Numbers, Adds}
use Rattle.buffer_model.specs.Clones.{Splits, Renews, Clones, SharesPart}
use Rattle.buffer_model.proofs.Totals.{keeps_same, keeps_any, keeps_wrapped_in, keeps_beside_last, share_keeps}

module _ {O : Type 0} where
  -- a window that stayed has its own three lists
  pub stays_as : (s t : Segment O) → t ≡ s → t ≡ shared_as t.share s
  stays_as s t is = is ∙ ap (λ k. shared_as k s) (ap (λ (x : Segment O). x.share) (sym is))

  -- a window on another share has the same three lists
  pub shared_anew : (s t : Segment O) (k : Share O) → t ≡ shared_as k s → t ≡ shared_as t.share s
  shared_anew s t k is = is ∙ ap (λ k. shared_as k s) (ap (λ (x : Segment O). x.share) (sym is))

  pub share_of : (s t : Segment O) (k : Share O) → t ≡ shared_as k s → t.share ≡ k
  share_of s t k is = ap (λ (x : Segment O). x.share) is

  module _ (a b : Numbers) where
    at_shares : (s t c x y : Share O) → t ≡ x → c ≡ y → KeepsTotalsBeside a b (held s ∷ []) (held x ∷ held y ∷ []) → KeepsTotalsBeside a b (held s ∷ []) (held t ∷ held c ∷ [])
    at_shares s t c x y first second keeps =
        let P : Share O → Type 0 = λ z. KeepsTotalsBeside a b (held s ∷ []) (held z ∷ held y ∷ []) in
        let Q : Share O → Type 0 = λ z. KeepsTotalsBeside a b (held s ∷ []) (held t ∷ held z ∷ []) in
        subst Q (sym second) (subst P (sym first) keeps)

    -- a part that is given away stays in sum
    pub splits_keep : (s t k : Share O) → Splits s t k → KeepsTotalsBeside a b (held s ∷ []) (held t ∷ held k ∷ [])
    splits_keep s t k (inl w) = at_shares s t k s s w.1 w.2 (keeps_any a b _ _ (keeps_wrapped_in s _ _ w.0 (keeps_same (held s ∷ []))))
    splits_keep s t k (inr w) = at_shares s t k _ _ w.1 w.2 (keeps_any a b _ _ (share_keeps s w.0))

    shares_keep : (s t k : Share O) → ((b ≡ a) × Splits s t k) ⊎ (Adds 1 a b × Renews a b s t k) → KeepsTotalsBeside a b (held s ∷ []) (held t ∷ held k ∷ [])
    shares_keep s t k (inl w) = splits_keep s t k w.1
    shares_keep s t k (inr w) = at_shares s t k s k w.1.1 refl (keeps_beside_last a b own s k w.1.2)

  pub clone_keeps_totals : (old new : Numbers) (s t c : Segment O) → Clones old new s t c → KeepsTotalsBeside old new (held s.share ∷ []) (held t.share ∷ held c.share ∷ [])
  clone_keeps_totals old new s t c is = shares_keep old new s.share t.share c.share is.shares

  same_storage : (t c x y : Share O) (r : Tally) → t ≡ x → c ≡ y → x.number ≡ y.number → x.table ≡ y.table → IsOfStorage c r → IsOfStorage t r
  same_storage t c x y r first second number table of = (
    ap (λ (k : Share O). k.number) first ∙ number ∙ sym (ap (λ (k : Share O). k.number) second) ∙ of.0,
    ap (λ (k : Share O). k.table) first ∙ table ∙ sym (ap (λ (k : Share O). k.table) second) ∙ of.1,
  )

  split_storage : (s t c : Share O) (r : Tally) → IsOfStorage c r → Splits s t c → IsOfStorage t r
  split_storage s t c r of (inl w) = same_storage t c s s r w.1 w.2 refl refl of
  split_storage s t c r of (inr w) = same_storage t c (rest_of s) (part_of s) r w.1 w.2 refl refl of

  by_shares : (old new : Numbers) (s t c : Share O) (r : Tally) → 2 ≤ s.weight → IsOfStorage c r → ((new ≡ old) × Splits s t c) ⊎ (Adds 1 old new × Renews old new s t c) → IsOfStorage t r
  by_shares old new s t c r two of (inl w) = split_storage s t c r of w.1
  by_shares old new s t c r two of (inr w) = absurd (let one = w.1.0 in omega (arith, one))

  -- where there is weight to share, a clone's receipt may be absorbed by what stayed
  pub clone_on_storage : (old new : Numbers) (s t c : Segment O) (r : Tally) → Clones old new s t c → 2 ≤ s.share.weight → IsOfStorage c.share r → IsOfStorage t.share r
  clone_on_storage old new s t c r is two of = by_shares old new s.share t.share c.share r two of is.shares

  -- a share of a part is a clone, and leaves the mint as it is
  pub part_clones : (m : Numbers) (before after clone : Segment O) → SharesPart before after clone → Clones m m before after clone
  part_clones m before after clone shared = record {
    lists = shared.lists;
    clone_lists = shared.clone_lists;
    shares = inl (refl, inr (shared.enough, shared.rest, shared.part));
  }
