-- Words that are cut at a byte.
use Rattle.std.proofs.Common.{◌≡◌, ℕ, ◌+◌, ◌-◌, ◌<◌, Bool, true, false, cond, List, [], ◌∷◌, Some, None, length, take, drop, nat_lt, refl, sym, ap, ◌∙◌, arith, length-drop, ltb-true, ltb-false}
use Rattle.std.specs.Prelude.{position}
use Rattle.std.specs.List.{slice_split, position_or_len, after_first}
use Rattle.std.proofs.lemmas.List.{take_all, drop_all}
use Rattle.std.proofs.lemmas.List.Sums.{fails_before_first}
use Rattle.std.proofs.lemmas.List.Splits.{slice_split_first, slice_split_none}

some_place : (b : Bool) (n i : ℕ) → Some i ≡ cond b (Some n) None → (n ≡ i) × (b ≡ true)
some_place true n i e = (cc, refl)
some_place false n i e = absurd (cc)

no_place : (b : Bool) (n : ℕ) → None ≡ cond b (Some n) None → b ≡ false
no_place true n e = absurd (cc)
no_place false n e = refl

pub cut_none : (p : ℕ → Bool) (xs : List ℕ) → None ≡ position p xs → slice_split p xs ≡ xs ∷ []
cut_none p xs is =
    let far = ltb-false (position_or_len p xs) (length xs) (no_place (nat_lt (position_or_len p xs) (length xs)) (position_or_len p xs) is) in
    slice_split_none p xs (λ k d within. fails_before_first p xs k d (omega arith))

pub cut_within : (p : ℕ → Bool) (xs : List ℕ) (i : ℕ) → Some i ≡ position p xs → i < length xs
cut_within p xs i is =
    let e = some_place (nat_lt (position_or_len p xs) (length xs)) (position_or_len p xs) i is in
    let inside = ltb-true (position_or_len p xs) (length xs) e.1 in
    omega (arith, e.0)

pub cut_at : (p : ℕ → Bool) (xs : List ℕ) (i : ℕ) → Some i ≡ position p xs → slice_split p xs ≡ take i xs ∷ slice_split p (take (length xs - (i + 1)) (drop (i + 1) xs))
cut_at p xs i is =
    let e = some_place (nat_lt (position_or_len p xs) (length xs)) (position_or_len p xs) i is in
    let inside = ltb-true (position_or_len p xs) (length xs) e.1 in
    slice_split_first p xs 0 inside ∙ ap (λ k. take k xs ∷ slice_split p (drop (k + 1) xs)) e.0
    ∙ ap (λ w. take i xs ∷ slice_split p w) (sym (take_all (length xs - (i + 1)) (drop (i + 1) xs) (omega (arith, length-drop (i + 1) xs))))

-- what stands behind the first element that passes
pub behind_none : {X : Type 0} (p : X → Bool) (xs : List X) → None ≡ position p xs → take (length xs - length xs) (drop (length xs) xs) ≡ after_first p xs
behind_none p xs is =
    let far = ltb-false (position_or_len p xs) (length xs) (no_place (nat_lt (position_or_len p xs) (length xs)) (position_or_len p xs) is) in
    let gone : drop (length xs) xs ≡ [] = drop_all (length xs) xs (omega arith) in
    let none : drop (position_or_len p xs + 1) xs ≡ [] = drop_all (position_or_len p xs + 1) xs (omega arith) in
    ap (λ w. take (length xs - length xs) w) gone ∙ take_all (length xs - length xs) [] (omega arith) ∙ sym none

pub behind_some : {X : Type 0} (p : X → Bool) (xs : List X) (i : ℕ) → Some i ≡ position p xs → take (length xs - (i + 1)) (drop (i + 1) xs) ≡ after_first p xs
behind_some p xs i is =
    let e = some_place (nat_lt (position_or_len p xs) (length xs)) (position_or_len p xs) i is in
    take_all (length xs - (i + 1)) (drop (i + 1) xs) (omega (arith, length-drop (i + 1) xs)) ∙ ap (λ k. drop (k + 1) xs) (sym e.0)
