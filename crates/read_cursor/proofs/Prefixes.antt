-- Runs of bytes that pass a test.
use Rattle.std.proofs.Common.{◌≡◌, ℕ, suc, zero, ◌+◌, ◌-◌, ◌<◌, ◌≤◌, Bool, true, false, cond, List, [], ◌∷◌, ◌++◌, length, take, drop, refl, sym, ap, ◌∙◌, arith, slice_index_or, drop-cons, add-one}
use Rattle.std.proofs.lemmas.List.{drop_all}
use Rattle.std.specs.List.{prefix_len}

module _ (p : ℕ → Bool) where
  pub passes : (xs : List ℕ) (i : ℕ) → i < length xs → p (slice_index_or xs i 0) ≡ true → prefix_len p (drop i xs) ≡ 1 + prefix_len p (drop (i + 1) xs)
  passes xs i l e =
      ap (prefix_len p) (drop-cons xs i 0 l) ∙ ap (λ b. cond b (1 + prefix_len p (drop (suc i) xs)) 0) e
      ∙ ap (λ (n : ℕ). 1 + prefix_len p (drop n xs)) (sym (add-one i))

  pub stops : (xs : List ℕ) (i : ℕ) → i < length xs → p (slice_index_or xs i 0) ≡ false → prefix_len p (drop i xs) ≡ 0
  stops xs i l e = ap (prefix_len p) (drop-cons xs i 0 l) ∙ ap (λ b. cond b (1 + prefix_len p (drop (suc i) xs)) 0) e

  pub ends : (xs : List ℕ) (i : ℕ) → length xs ≤ i → prefix_len p (drop i xs) ≡ 0
  ends xs i l = ap (prefix_len p) (drop_all i xs l)

  -- the run of a front: where it is all of the front, it goes on behind it
  goes_on_by : (b : Bool) (m : ℕ) (x : ℕ) (xs : List ℕ) → b ≡ p x → prefix_len p (take (suc m) (x ∷ xs)) ≡ suc m
      → (prefix_len p (take m xs) ≡ m → prefix_len p xs ≡ m + prefix_len p (drop m xs)) → prefix_len p (x ∷ xs) ≡ suc m + prefix_len p (drop m xs)
  goes_on_by true m x xs is e rec =
      let a : suc m ≡ 1 + prefix_len p (take m xs) = sym e ∙ ap (λ b. cond b (1 + prefix_len p (take m xs)) 0) (sym is) in
      let more = rec (omega (arith, a)) in
      ap (λ b. cond b (1 + prefix_len p xs) 0) (sym is) ∙ omega (arith, more)
  goes_on_by false m x xs is e rec =
      let a : suc m ≡ 0 = sym e ∙ ap (λ b. cond b (1 + prefix_len p (take m xs)) 0) (sym is) in absurd (omega (arith, a))

  pub goes_on : (m : ℕ) (xs : List ℕ) → m ≤ length xs → prefix_len p (take m xs) ≡ m → prefix_len p xs ≡ m + prefix_len p (drop m xs)
  goes_on zero xs l e = omega arith
  goes_on (suc m) [] l e = absurd (omega (arith, l))
  goes_on (suc m) (x ∷ xs) l e = goes_on_by (p x) m x xs refl e (goes_on m xs (omega (arith, l)))

  stops_by : (b : Bool) (m : ℕ) (x : ℕ) (xs : List ℕ) → b ≡ p x → prefix_len p (take (suc m) (x ∷ xs)) < suc m
      → (prefix_len p (take m xs) < m → prefix_len p xs ≡ prefix_len p (take m xs)) → prefix_len p (x ∷ xs) ≡ prefix_len p (take (suc m) (x ∷ xs))
  stops_by true m x xs is e rec =
      let a : prefix_len p (take (suc m) (x ∷ xs)) ≡ 1 + prefix_len p (take m xs) = ap (λ b. cond b (1 + prefix_len p (take m xs)) 0) (sym is) in
      let more = rec (omega (arith, a, e)) in
      ap (λ b. cond b (1 + prefix_len p xs) 0) (sym is) ∙ omega (arith, more, a)
  stops_by false m x xs is e rec =
      ap (λ b. cond b (1 + prefix_len p xs) 0) (sym is) ∙ sym (ap (λ b. cond b (1 + prefix_len p (take m xs)) 0) (sym is))

  pub stops_in : (m : ℕ) (xs : List ℕ) → m ≤ length xs → prefix_len p (take m xs) < m → prefix_len p xs ≡ prefix_len p (take m xs)
  stops_in zero xs l e = absurd (omega (arith, e))
  stops_in (suc m) [] l e = absurd (omega (arith, l))
  stops_in (suc m) (x ∷ xs) l e = stops_by (p x) m x xs refl e (stops_in m xs (omega (arith, l)))
