-- Lists of items that go out from the end of a list, and come back.
use Rattle.std.proofs.Common.{◌≡◌, ℕ, zero, suc, ◌+◌, ◌*◌, ◌/◌, ◌%◌, ◌<◌, ◌≤◌, List, [], ◌∷◌, ◌++◌, length, reverse, sym, ap, ◌∙◌, append_assoc, append-nil, arith, min, All, length-append}
use Rattle.std.specs.Prelude.{slice_index_or}
use Rattle.std.specs.List.{AllZip}
use Rattle.std.proofs.Math.Nat.{le-mul_of_pos_right}
use Rattle.std.proofs.lemmas.Nat.{div-add-mod'}
use Rattle.std.proofs.lemmas.List.{reverse-append}
use Rattle.crew.specs.declared.batch.Batch.{Batch}
use Rattle.crew.specs.Batches.{items_of}

-- a like share of something is something, and no more than all
share : (a b q r : ℕ) → q * b + r ≡ a → q ≤ q * b → 0 < a → (0 < q + min 1 r) × (q + min 1 r ≤ a)
share a b zero r e m pos = (omega arith, omega arith)
share a b (suc q) r e m pos = (omega arith, omega arith)

pub share_some : (a b : ℕ) → 0 < a → 0 < b → 0 < a / b + min 1 (a % b)
share_some a b some parts = (share a b (a / b) (a % b) (div-add-mod' a b) (le-mul_of_pos_right (a / b) parts) some).0

pub share_most : (a b : ℕ) → 0 < a → 0 < b → a / b + min 1 (a % b) ≤ a
share_most a b some parts = (share a b (a / b) (a % b) (div-add-mod' a b) (le-mul_of_pos_right (a / b) parts) some).1

module _ {J : Type 0} where
  -- the last of some items goes behind those that were taken before it, which stand the other way round
  pub moved : (all xs : List J) (x : J) (batch more : List J) → all ≡ (xs ++ x ∷ []) ++ reverse batch → more ≡ batch ++ x ∷ [] → all ≡ xs ++ reverse more
  moved all xs x batch more e f =
      e ∙ append_assoc xs (x ∷ []) (reverse batch) ∙ ap (λ (l : List J). xs ++ l) (sym (reverse-append batch (x ∷ []))) ∙ ap (λ (l : List J). xs ++ reverse l) (sym f)

  -- the batch that is handed out last has the first items
  pub items_of-push : (bs : List (Batch J)) (b : Batch J) → items_of (bs ++ b ∷ []) ≡ b.items.items ++ items_of bs
  items_of-push [] b = sym (append-nil b.items.items)
  items_of-push (c ∷ bs) b = ap (λ (l : List J). l ++ c.items.items) (items_of-push bs b) ∙ append_assoc b.items.items (items_of bs) c.items.items

  pub length-items_of : (bs more : List (Batch J)) (b : Batch J) → more ≡ bs ++ b ∷ [] → length (items_of more) ≡ length b.items.items + length (items_of bs)
  length-items_of bs more b f = ap (λ (l : List (Batch J)). length (items_of l)) f ∙ ap length (items_of-push bs b) ∙ length-append b.items.items (items_of bs)

  -- the last items go out as a batch
  pub handed : (all xs : List J) (b : Batch J) (bs more : List (Batch J)) → all ≡ xs ++ b.items.items → more ≡ bs ++ b ∷ [] → all ++ items_of bs ≡ xs ++ items_of more
  handed all xs b bs more e f =
      ap (λ (l : List J). l ++ items_of bs) e
      ∙ append_assoc xs b.items.items (items_of bs)
      ∙ ap (λ (l : List J). xs ++ l) (sym (items_of-push bs b))
      ∙ ap (λ (l : List (Batch J)). xs ++ items_of l) (sym f)

  -- the batch that was handed out last comes back
  pub returned : (all out : List J) (b : Batch J) (bs more : List (Batch J)) → all ≡ out ++ items_of more → more ≡ bs ++ b ∷ [] → all ≡ (out ++ b.items.items) ++ items_of bs
  returned all out b bs more e f =
      e
      ∙ ap (λ (l : List (Batch J)). out ++ items_of l) f
      ∙ ap (λ (l : List J). out ++ l) (items_of-push bs b)
      ∙ sym (append_assoc out b.items.items (items_of bs))

  module _ (P : J → Type 0) where
    pub all_left : (xs ys : List J) → All P (xs ++ ys) → All P xs
    all_left [] ys h k d lt = absurd (omega arith)
    all_left (x ∷ xs) ys h zero d lt = h 0 d (omega arith)
    all_left (x ∷ xs) ys h (suc k) d lt = all_left xs ys (λ j e below. h (suc j) e (omega arith)) k d (omega arith)

    pub all_right : (xs ys : List J) → All P (xs ++ ys) → All P ys
    all_right [] ys h = h
    all_right (x ∷ xs) ys h = all_right xs ys (λ j e below. h (suc j) e (omega arith))

  module _ (R : J → J → Type 0) where
    pub zip_append : (xs ys us vs : List J) → AllZip R xs ys → AllZip R us vs → AllZip R (xs ++ us) (ys ++ vs)
    zip_append [] [] us vs h k = k
    zip_append [] (y ∷ ys) us vs h k = absurd h
    zip_append (x ∷ xs) [] us vs h k = absurd h
    zip_append (x ∷ xs) (y ∷ ys) us vs h k = (h.0, zip_append xs ys us vs h.1 k)

    pub zip_of : (xs ys : List J) → length ys ≡ length xs → ((k : ℕ) (d : J) → k < length xs → R (slice_index_or xs k d) (slice_index_or ys k d)) → AllZip R xs ys
    zip_of [] [] e f = tt
    zip_of [] (y ∷ ys) e f = absurd (omega arith)
    zip_of (x ∷ xs) [] e f = absurd (omega arith)
    zip_of (x ∷ xs) (y ∷ ys) e f = (f 0 x (omega arith), zip_of xs ys (omega arith) (λ k d lt. f (suc k) d (omega arith)))
