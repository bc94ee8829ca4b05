-- Nodes that share their storages.
use Rattle.std.proofs.Common.{◌≡◌, ℕ, ◌+◌, ◌-◌, ◌<◌, ◌≤◌, List, [], ◌∷◌, ◌++◌, Option, IsSome, length, drop, refl, sym, ap, subst, ◌∙◌, arith, inl, inr, length-drop}
use Rattle.share_count.specs.Weights.{part}
use Rattle.buffer_model.specs.Share.{Share}
use Rattle.buffer_model.specs.Segment.{Segment, trimmed_start}
use Rattle.buffer_model.specs.Minted.{Numbers}
use Rattle.buffer_model.specs.Clones.{Clones}
use Rattle.iobuf_chain.specs.Lists.{Each}
use Rattle.iobuf_chain.specs.Shares.{ClonesEach}
use Rattle.iobuf_chain.specs.Copies.{HasData, HasStorage, IsSameStorage, WithData, CopiesNoData, IsHeavy, IsStout, IsShareable}
use Rattle.iobuf_chain.proofs.Rejoined.{unmanaged}

pub shares_in_turn : (k w : ℕ) → k ≤ 1024 → k + 2 ≤ w → k + 1 ≤ w - part w
shares_in_turn k w h l = omega arith

pub each_append : {X : Type 0} (P : X → Type 0) (xs ys : List X) → Each P xs → Each P ys → Each P (xs ++ ys)
each_append P [] ys p q = q
each_append P (x ∷ xs) ys p q = (p.0, each_append P xs ys p.1 q)

pub each_before : {X : Type 0} (P : X → Type 0) (xs ys : List X) → Each P (xs ++ ys) → Each P xs
each_before P [] ys p = tt
each_before P (x ∷ xs) ys p = (p.0, each_before P xs ys p.1)

pub each_behind : {X : Type 0} (P : X → Type 0) (xs ys : List X) → Each P (xs ++ ys) → Each P ys
each_behind P [] ys p = p
each_behind P (x ∷ xs) ys p = each_behind P xs ys p.1

pub each_map : {X : Type 0} (P Q : X → Type 0) (xs : List X) → ((x : X) → P x → Q x) → Each P xs → Each Q xs
each_map P Q [] f p = tt
each_map P Q (x ∷ xs) f p = (f x p.0, each_map P Q xs f p.1)

module _ {O : Type 0} where
  pub storage_later : (k : Share O) (xs ys : List (Segment O)) → HasStorage k ys → HasStorage k (xs ++ ys)
  storage_later k [] ys h = h
  storage_later k (x ∷ xs) ys h = inr (storage_later k xs ys h)

  pub storage_sooner : (k : Share O) (xs ys : List (Segment O)) → HasStorage k xs → HasStorage k (xs ++ ys)
  storage_sooner k [] ys h = absurd h
  storage_sooner k (x ∷ xs) ys (inl h) = inl h
  storage_sooner k (x ∷ xs) ys (inr h) = inr (storage_sooner k xs ys h)

  -- it goes by the storage alone
  pub storage_of_same : (j k : Share O) (xs : List (Segment O)) → IsSameStorage j k → HasStorage k xs → HasStorage j xs
  storage_of_same j k [] same h = absurd h
  storage_of_same j k (x ∷ xs) same (inl h) = inl (h.0, (h.1.0 ∙ sym same.0, h.1.1 ∙ sym same.1))
  storage_of_same j k (x ∷ xs) same (inr h) = inr (storage_of_same j k xs same h)

  -- nodes that stay have the storages that they had
  pub own_storages : (xs : List (Segment O)) → CopiesNoData xs xs
  own_storages [] = tt
  own_storages (x ∷ xs) = (λ data_is. inl (data_is, (refl, refl)), each_map _ _ xs (λ s h d. inr (h d)) (own_storages xs))

  -- a clone of a node that can be shared has its storage
  pub clone_storage : (old new : Numbers) (before after clone : Segment O) → Clones old new before after clone → 2 ≤ before.share.weight
      → IsSameStorage clone.share before.share × IsSameStorage after.share before.share
  clone_storage old new before after clone is more =
      elim is.shares [
        | inl (same, splits) ↦ elim splits [
          | inl w ↦ (
            (ap (λ (s : Share O). s.number) w.2, ap (λ (s : Share O). s.table) w.2),
            (ap (λ (s : Share O). s.number) w.1, ap (λ (s : Share O). s.table) w.1),
          )
          | inr w ↦ (
            (ap (λ (s : Share O). s.number) w.2, ap (λ (s : Share O). s.table) w.2),
            (ap (λ (s : Share O). s.number) w.1, ap (λ (s : Share O). s.table) w.1),
          )
        ]
        | inr (adds, renews) ↦ absurd (let one = renews.0 in omega (arith, one, more))
      ]

  -- the clones of such nodes copy no data
  pub clones_copy_nothing : (old new : Numbers) (bs ns cs : List (Segment O)) → ClonesEach old new bs ns cs → WithData IsShareable bs → CopiesNoData bs cs
  clones_copy_nothing old new [] [] [] is may = tt
  clones_copy_nothing old new (b ∷ bs) (n ∷ ns) (c ∷ cs) is may =
      let clone : c.window ≡ b.window = ap (λ (t : Segment O). t.window) is.1.clone_lists in
      let size : length c.window ≡ length b.window = ap length clone in (
        (λ some.
            let had : HasData b = omega (arith, size, some) in
            let same = (clone_storage old is.0 b n c is.1 (may.0 had)).0 in
            inl (had, (sym same.0, sym same.1))),
        each_map _ _ cs (λ s h d. inr (h d)) (clones_copy_nothing is.0 new bs ns cs is.2 may.1),
      )
  clones_copy_nothing old new [] [] (z ∷ cs) is may = absurd is
  clones_copy_nothing old new [] (y ∷ ns) [] is may = absurd is
  clones_copy_nothing old new [] (y ∷ ns) (z ∷ cs) is may = absurd is
  clones_copy_nothing old new (x ∷ bs) [] [] is may = absurd is
  clones_copy_nothing old new (x ∷ bs) [] (z ∷ cs) is may = absurd is
  clones_copy_nothing old new (x ∷ bs) (y ∷ ns) [] is may = absurd is

  pub heavy_is_stout : (s : Segment O) → IsHeavy s → IsStout s
  heavy_is_stout s h = let heavy = h.1 in (h.0, omega (arith, heavy))

  -- a cut of a heavy node leaves a heavy node, and gives a stout one
  pub cut_of_heavy : (k : ℕ) (old new : Numbers) (before after clone : Segment O) → Clones old new before after clone → IsHeavy before
      → 0 < k → k < length before.window → IsStout clone × IsHeavy (trimmed_start k after)
  cut_of_heavy k old new before after clone is heavy some within =
      let weight = heavy.1 in
      let P : Option ℕ → Type 0 = λ o. IsSome o in
      elim is.shares [
        | inl (same, splits) ↦ elim splits [
          | inl w ↦ absurd (unmanaged before.share w.0 heavy.0)
          | inr w ↦
              let given : clone.share.weight ≡ part before.share.weight = ap (λ (s : Share O). s.weight) w.2 in
              let kept : after.share.weight ≡ before.share.weight - part before.share.weight = ap (λ (s : Share O). s.weight) w.1 in
              let left : length (drop k after.window) ≡ length before.window - k = length-drop k after.window ∙ ap (λ (t : Segment O). length t.window - k) is.lists in (
                (subst P (sym (ap (λ (s : Share O). s.number) w.2)) heavy.0, omega (arith, given, weight)),
                (subst P (sym (ap (λ (s : Share O). s.number) w.1)) heavy.0, omega (arith, kept, left, weight, some, within)),
              )
        ]
        | inr (adds, renews) ↦ absurd (let one = renews.0 in omega (arith, one, weight))
      ]

  pub copies_from : (xs zs ys : List (Segment O)) → xs ≡ zs → CopiesNoData xs ys → CopiesNoData zs ys
  copies_from xs zs ys e h = let P : List (Segment O) → Type 0 = λ w. CopiesNoData w ys in subst P e h

  pub with_data_from : (P : Segment O → Type 0) (xs zs : List (Segment O)) → xs ≡ zs → WithData P zs → WithData P xs
  with_data_from P xs zs e h = let Q : List (Segment O) → Type 0 = λ w. WithData P w in subst Q (sym e) h
