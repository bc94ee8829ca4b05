-- Things by number: what a change and an addition do to a look-up and to a sum.
use Rattle.std.proofs.Common.{◌≡◌, ℕ, zero, suc, ◌+◌, ◌≤◌, ◌<◌, List, [], ◌∷◌, ◌++◌, length, set, Some, None, Option, sym, refl, ap, ◌∙◌, arith, eq-eqb, ne_eqb}
use Rattle.std.proofs.lemmas.Option.{none-some, same_Some}
use Rattle.std.specs.Prelude.{if◌then◌else◌}
use mathlib.Core.Logic.{dite, ◌⊎◌, inl, inr, ⊎_elim}
use native.Mathlib.Decide.{ℕ_discrete}
use Rattle.share_count.specs.Histories.{find}
use Rattle.share_count.specs.Accounting.{over, of}

pub of_here : (i j n : ℕ) → j ≡ i → of i j n ≡ n
of_here i j n e = ap (λ y. if y then n else 0) (eq-eqb j i e)

pub of_else : (i j n : ℕ) → ¬ (j ≡ i) → of i j n ≡ 0
of_else i j n e = ap (λ y. if y then n else 0) (ne_eqb j i e)

pub of_sum : (i j m n : ℕ) → of i j (m + n) ≡ of i j m + of i j n
of_sum i j m n = dite (ℕ_discrete j i) (λ e. let a = of_here i j m e in let b = of_here i j n e in let c = of_here i j (m + n) e in omega (arith, a, b, c)) (λ e. let a = of_else i j m e in let b = of_else i j n e in let c = of_else i j (m + n) e in omega (arith, a, b, c))

module _ {A : Type 0} where
  -- what may be there counts as much
  abbrev pub worth : (A → ℕ) → Option A → ℕ
  worth f None = 0
  worth f (Some x) = f x

  pub over_set : (f : A → ℕ) (xs : List (Option A)) (i : ℕ) (x : A) (o : Option A) → find xs i ≡ Some x → over f (set xs i o) + f x ≡ over f xs + worth f o
  over_set f [] i x o at = absurd (none-some x at)
  over_set f (None ∷ xs) zero x o at = absurd (none-some x at)
  over_set f (Some y ∷ xs) zero x None at = let same : f y ≡ f x = ap f (same_Some y x at) in omega (arith, same)
  over_set f (Some y ∷ xs) zero x (Some z) at = let same : f y ≡ f x = ap f (same_Some y x at) in omega (arith, same)
  over_set f (None ∷ xs) (suc i) x o at = over_set f xs i x o at
  over_set f (Some y ∷ xs) (suc i) x o at = let rest = over_set f xs i x o at in omega (arith, rest)

  pub over_push : (f : A → ℕ) (xs : List (Option A)) (o : Option A) → over f (xs ++ o ∷ []) ≡ over f xs + worth f o
  over_push f [] None = refl
  over_push f [] (Some z) = omega arith
  over_push f (None ∷ xs) o = over_push f xs o
  over_push f (Some y ∷ xs) o = let rest = over_push f xs o in omega (arith, rest)

  pub over_at : (f : A → ℕ) (xs : List (Option A)) (i : ℕ) (x : A) → find xs i ≡ Some x → f x ≤ over f xs
  over_at f [] i x at = absurd (none-some x at)
  over_at f (None ∷ xs) zero x at = absurd (none-some x at)
  over_at f (Some y ∷ xs) zero x at = let same : f y ≡ f x = ap f (same_Some y x at) in omega (arith, same)
  over_at f (None ∷ xs) (suc i) x at = over_at f xs i x at
  over_at f (Some y ∷ xs) (suc i) x at = let rest = over_at f xs i x at in omega (arith, rest)

  pub over_two : (f : A → ℕ) (xs : List (Option A)) (i j : ℕ) (x y : A) → find xs i ≡ Some x → find xs j ≡ Some y → ¬ (j ≡ i) → f x + f y ≤ over f xs
  over_two f [] i j x y at at' two = absurd (none-some x at)
  over_two f (o ∷ xs) zero zero x y at at' two = absurd (two refl)
  over_two f (None ∷ xs) zero (suc j) x y at at' two = absurd (none-some x at)
  over_two f (Some z ∷ xs) zero (suc j) x y at at' two = let same : f z ≡ f x = ap f (same_Some z x at) in let rest = over_at f xs j y at' in omega (arith, rest, same)
  over_two f (None ∷ xs) (suc i) zero x y at at' two = absurd (none-some y at')
  over_two f (Some z ∷ xs) (suc i) zero x y at at' two = let same : f z ≡ f y = ap f (same_Some z y at') in let rest = over_at f xs i x at in omega (arith, rest, same)
  over_two f (None ∷ xs) (suc i) (suc j) x y at at' two = over_two f xs i j x y at at' (λ e. two (ap suc e))
  over_two f (Some z ∷ xs) (suc i) (suc j) x y at at' two = let rest = over_two f xs i j x y at at' (λ e. two (ap suc e)) in omega (arith, rest)

  pub over_none : (f : A → ℕ) (xs : List (Option A)) → ((i : ℕ) (x : A) → find xs i ≡ Some x → f x ≡ 0) → over f xs ≡ 0
  over_none f [] h = refl
  over_none f (None ∷ xs) h = over_none f xs (λ i x at. h (suc i) x at)
  over_none f (Some y ∷ xs) h = let rest = over_none f xs (λ i x at. h (suc i) x at) in let one = h zero y refl in omega (arith, rest, one)

  pub find_less : (xs : List (Option A)) (i : ℕ) (x : A) → find xs i ≡ Some x → i < length xs
  find_less [] i x at = absurd (none-some x at)
  find_less (y ∷ xs) zero x at = omega arith
  find_less (y ∷ xs) (suc i) x at = let rest = find_less xs i x at in omega (arith, rest)

  pub find_same : (xs : List (Option A)) (i : ℕ) (x : A) (o : Option A) → find xs i ≡ Some x → find (set xs i o) i ≡ o
  find_same [] i x o at = absurd (none-some x at)
  find_same (y ∷ xs) zero x o at = refl
  find_same (y ∷ xs) (suc i) x o at = find_same xs i x o at

  pub find_else : (xs : List (Option A)) (i j : ℕ) (o : Option A) → ¬ (j ≡ i) → find (set xs i o) j ≡ find xs j
  find_else [] i j o two = refl
  find_else (y ∷ xs) zero zero o two = absurd (two refl)
  find_else (y ∷ xs) zero (suc j) o two = refl
  find_else (y ∷ xs) (suc i) zero o two = refl
  find_else (y ∷ xs) (suc i) (suc j) o two = find_else xs i j o (λ e. two (ap suc e))

  -- after a change: it is the one that changed, or another as it was
  pub find_set : (xs : List (Option A)) (i j : ℕ) (x y : A) (o : Option A) → find xs i ≡ Some x → find (set xs i o) j ≡ Some y → ((j ≡ i) × (o ≡ Some y)) ⊎ ((¬ (j ≡ i)) × (find xs j ≡ Some y))
  find_set xs i j x y o at at' = dite (ℕ_discrete j i)
      (λ e. inl (e, sym (find_same xs i x o at) ∙ ap (λ k. find (set xs i o) k) (sym e) ∙ at'))
      (λ n. inr (n, sym (find_else xs i j o n) ∙ at'))

  pub find_old : (xs : List (Option A)) (i : ℕ) (x : A) (o : Option A) → find xs i ≡ Some x → find (xs ++ o ∷ []) i ≡ Some x
  find_old [] i x o at = absurd (none-some x at)
  find_old (y ∷ xs) zero x o at = at
  find_old (y ∷ xs) (suc i) x o at = find_old xs i x o at

  pub find_new : (xs : List (Option A)) (o : Option A) → find (xs ++ o ∷ []) (length xs) ≡ o
  find_new [] o = refl
  find_new (y ∷ xs) o = find_new xs o

  -- after an addition: it is one of before, or the new one
  pub find_push : (xs : List (Option A)) (i : ℕ) (y : A) (o : Option A) → find (xs ++ o ∷ []) i ≡ Some y → (find xs i ≡ Some y) ⊎ ((i ≡ length xs) × (o ≡ Some y))
  find_push [] zero y o at = inr (refl, at)
  find_push [] (suc i) y o at = absurd (none-some y at)
  find_push (z ∷ xs) zero y o at = inl at
  find_push (z ∷ xs) (suc i) y o at = ⊎_elim (λ h. inl h) (λ h. inr (ap suc h.0, h.1)) (find_push xs i y o at)

  pub length_push : (xs : List (Option A)) (o : Option A) → length (xs ++ o ∷ []) ≡ suc (length xs)
  length_push [] o = refl
  length_push (y ∷ xs) o = ap suc (length_push xs o)

  pub length_set : (xs : List (Option A)) (i : ℕ) (o : Option A) → length (set xs i o) ≡ length xs
  length_set [] i o = refl
  length_set (y ∷ xs) zero o = refl
  length_set (y ∷ xs) (suc i) o = ap suc (length_set xs i o)
