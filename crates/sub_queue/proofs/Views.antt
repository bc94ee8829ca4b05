-- What holds of each view in a list, where one view changes or one more comes.
use Rattle.std.proofs.Common.{◌≡◌, ◌≢◌, ℕ, zero, suc, List, [], ◌∷◌, ◌++◌, length, set, sym, refl, ap, subst, ⊎_elim}
use mathlib.Core.Option.{some, some-ne-none}
use lib.ListN.{get_elem?}
use Rattle.crossbeam_queue.proofs.Lists.{at_set, at_snoc}

module _ {V : Type 0} where
  abbrev pub Each : (ℕ → V → Type 0) → List V → Type 0
  Each F views = (id : ℕ) (v : V) → get_elem? views id ≡ some v → F id v

  -- what isn't in the list is the one that came last
  pub at_end : (l : List V) (a b : V) (j : ℕ) → get_elem? l j ≢ some b → get_elem? (l ++ a ∷ []) j ≡ some b → j ≡ length l
  at_end [] a b zero n e = refl
  at_end [] a b (suc j) n e = absurd (some-ne-none b (sym e))
  at_end (x ∷ xs) a b zero n e = absurd (n e)
  at_end (x ∷ xs) a b (suc j) n e = ap suc (at_end xs a b j n e)

  pub each_set : (F : ℕ → V → Type 0) (views : List V) (id : ℕ) (w : V) → F id w
      → ((j : ℕ) (u : V) → j ≢ id → get_elem? views j ≡ some u → F j u) → Each F (set views id w)
  each_set F views id w mine others j u e = ⊎_elim
      (λ (x : (j ≡ id) × (w ≡ u)). subst (λ (y : ℕ × V). F y.0 y.1) (λ i. (sym x.0 i, x.1 i)) mine)
      (λ (x : (j ≢ id) × (get_elem? views j ≡ some u)). others j u x.0 x.1)
      (at_set views id j w u e)

  pub each_one : (F : ℕ → V → Type 0) (w : V) → F 0 w → Each F (w ∷ [])
  each_one F w mine = each_set F (w ∷ []) 0 w mine
      (λ j u other e. absurd (other (at_end [] w u j (λ x. some-ne-none u (sym x)) e)))

  -- of the view that came last only the place and the view are known
  pub each_more : (F : ℕ → V → Type 0) (views : List V) (w : V) → Each F views
      → ((j : ℕ) → (get_elem? views j ≢ some w → j ≡ length views) → F j w) → Each F (views ++ w ∷ [])
  each_more F views w old new j u e = ⊎_elim
      (λ (x : get_elem? views j ≡ some u). old j u x)
      (λ (is : w ≡ u). subst (λ (y : V). F j y) is
      (new j (λ none. at_end views w w j none (subst (λ (y : V). get_elem? (views ++ w ∷ []) j ≡ some y) (sym is) e))))
      (at_snoc views w u j e)
