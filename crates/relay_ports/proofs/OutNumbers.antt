-- The set of the numbers of the blocks that are out.
use Rattle.std.proofs.Common.{◌≡◌, ℕ, ◌+◌, ◌<◌, Bool, true, false, not, List, [], ◌∷◌, ◌++◌, refl, ap, sym, subst, ◌∙◌, cond, nat_lt, ◌==◌, eq-eqb, ne_eqb, arith}
use Rattle.std.specs.Prelude.{All}
use Rattle.std.specs.declared.cmp.Ordering.TheVariants.{Less, Equal, Greater}
use Rattle.std.specs.Ordering.{nat_cmp, is_eq, match_ordering}
use Rattle.std.specs.Set.{remove_key}
use Rattle.std.specs.BTreeMap.{is_at}
use Rattle.std.specs.BTreeSet.{insert_key}
use Rattle.std.specs.List.Sorted.{IsStrictlySortedBy}
use Rattle.std.proofs.lemmas.List.Elements.{All-head, All-push, All-tail, All-weaker}
use Rattle.std.specs.Cmp.{unsigned_ties}
use Rattle.std.proofs.lemmas.Map.Keys.{sorted_tail}
use Rattle.std.proofs.lemmas.Map.Views.{All-after_first}
use Rattle.relay_ports.specs.Told.{without_number}

above : (n x : ℕ) → x < n → nat_cmp n x ≡ Greater
above n x below = by (nat_lt n x) (n == x) refl refl
  where
    by : (a b : Bool) → a ≡ nat_lt n x → b ≡ (n == x) → cond a Less (cond b Equal Greater) ≡ Greater
    by true b is same = absurd (grind (arith, below, is))
    by false true is same = absurd (grind (arith, below, same))
    by false false is same = refl

-- a number above all others stands last
pub inserted_last : (xs : List ℕ) (n : ℕ) → All (λ m. m < n) xs → insert_key nat_cmp xs n ≡ xs ++ n ∷ []
inserted_last [] n all = refl
inserted_last (x ∷ xs) n all =
    ap (λ o. match_ordering o (n ∷ x ∷ xs) (x ∷ xs) (x ∷ insert_key nat_cmp xs n)) (above n x (All-head (λ m. m < n) x xs all))
    ∙ ap (λ v. x ∷ v) (inserted_last xs n (All-tail (λ m. m < n) x xs all))

-- a number below all others isn't among them
kept_above : (n : ℕ) (xs : List ℕ) → All (λ m. nat_cmp n m ≡ Less) xs → without_number n xs ≡ xs
kept_above n [] all = refl
kept_above n (x ∷ xs) all = step (n == x) (apart (nat_lt n x) (n == x) refl (All-head (λ m. nat_cmp n m ≡ Less) x xs all))
    (kept_above n xs (All-tail (λ m. nat_cmp n m ≡ Less) x xs all))
  where
    apart : (a b : Bool) → a ≡ nat_lt n x → cond (nat_lt n x) Less (cond (n == x) Equal Greater) ≡ Less → (n == x) ≡ false
    apart true b is less = ne_eqb n x (λ same. absurd (grind (arith, is, same)))
    apart false b is less = absurd (grind (arith, is, less))

    step : (b : Bool) → b ≡ false → without_number n xs ≡ xs → cond (not b) (x ∷ without_number n xs) (without_number n xs) ≡ x ∷ xs
    step true is rest = absurd (cc)
    step false is rest = ap (λ v. x ∷ v) rest

removed_step : (x : ℕ) (xs u w : List ℕ) (b : Bool) → (b ≡ true → w ≡ xs) → u ≡ w → cond b xs (x ∷ u) ≡ cond (not b) (x ∷ w) w
removed_step x xs u w true first rest = sym (first refl)
removed_step x xs u w false first rest = ap (λ v. x ∷ v) rest

-- in a set the first key that is equal is the only one
pub removed_one : (n : ℕ) (xs : List ℕ) → IsStrictlySortedBy nat_cmp xs → remove_key (is_at (nat_cmp n)) xs ≡ without_number n xs
removed_one n [] sorted = refl
removed_one n (x ∷ xs) sorted =
    ap (λ b. cond b xs (x ∷ remove_key (is_at (nat_cmp n)) xs)) (sym (unsigned_ties n x))
    ∙ removed_step x xs (remove_key (is_at (nat_cmp n)) xs) (without_number n xs) (n == x) only (removed_one n xs (sorted_tail nat_cmp x xs sorted))
  where
    only : (n == x) ≡ true → without_number n xs ≡ xs
    only same =
        let P : ℕ → Type 0 = λ k. All (λ m. nat_cmp k m ≡ Less) xs in
        let e : x ≡ n = grind (arith, same) in
        kept_above n xs (subst P e (All-after_first nat_cmp x xs sorted))

-- where a block more is out, the numbers are still below the count
pub below_more : (xs : List ℕ) (n : ℕ) → All (λ m. m < n) xs → All (λ m. m < n + 1) (xs ++ n ∷ [])
below_more xs n all = All-push (λ m. m < n + 1) xs n (All-weaker (λ m. m < n) (λ m. m < n + 1) (λ m below. omega (arith, below)) xs all) (omega arith)

-- a number that was out alone, or above all others, leaves the others when its block is back
pub returned_last : (xs : List ℕ) (n : ℕ) → All (λ m. m < n) xs → without_number n (xs ++ n ∷ []) ≡ xs
returned_last [] n all = ap (λ b. cond (not b) (n ∷ []) []) (eq-eqb n n refl)
returned_last (x ∷ xs) n all =
    ap (λ b. cond (not b) (x ∷ without_number n (xs ++ n ∷ [])) (without_number n (xs ++ n ∷ []))) (ne_eqb n x other)
    ∙ ap (λ v. x ∷ v) (returned_last xs n (All-tail (λ m. m < n) x xs all))
  where
    below : x < n
    below = All-head (λ m. m < n) x xs all

    other : n ≡ x → ⊥
    other same = absurd (omega (arith, below, same))
