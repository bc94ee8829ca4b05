-- A search for the first ending that passes over bytes which end none.
use Rattle.std.proofs.Common.{◌≡◌, ℕ, zero, suc, ◌+◌, ◌-◌, ◌<◌, ◌≤◌, Bool, true, false, List, [], ◌∷◌, ◌++◌, Option, Some, None, length, take, drop, slice_index, refl, ap, sym, ◌∙◌, subst, arith, append_assoc, take-add, take_all, length-append, length-drop, length-take-le}
use Rattle.std.proofs.lemmas.List.{take_more, get_or-drop}
use Rattle.std.specs.List.{Contains}
use Rattle.std.specs.Option.{MatchOption}
use Rattle.frame_head.specs.Endings.{NoneEnds, IsFirstEnding, longest_ending, ended_or, first_ended}
use Rattle.frame_head.proofs.Ended.{none_then}
use Rattle.frame_head.proofs.FirstEnding.{first_ending}
use Rattle.frame_rule.specs.Endings.{Unended, FindsEnding}

-- a byte that doesn't pass the test is the last of no ending
abbrev pub Silent : List (List ℕ) → (ℕ → Bool) → Type 0
Silent E test = (f : List ℕ) (x : ℕ) → test x ≡ false → longest_ending E (f ++ x ∷ []) ≡ None

-- no byte of `hay` before the place `n` passes the test
abbrev pub NoneTo : (ℕ → Bool) → List ℕ → ℕ → Type 0
NoneTo test hay n = (k : ℕ) → 0 ≤ k → k < n → test (slice_index hay k) ≡ true → ⊥

not_true : (b : Bool) → (b ≡ true → ⊥) → b ≡ false
not_true true not = absurd (not refl)
not_true false not = refl

passed_by : (f : List ℕ) (here : Option (List ℕ)) (later : Option (List ℕ × List ℕ)) → here ≡ None → later ≡ None → ended_or f here later ≡ None
passed_by f here later p q = ap (λ w. ended_or f w later) p ∙ q

silent_to : (E : List (List ℕ)) (test : ℕ → Bool) → Silent E test → (f hay : List ℕ) (n : ℕ) → n ≤ length hay → NoneTo test hay n → first_ended E f (take n hay) ≡ None
silent_to E test silent f [] zero within none = refl
silent_to E test silent f (x ∷ hay) zero within none = refl
silent_to E test silent f [] (suc n) within none = absurd (omega arith)
silent_to E test silent f (x ∷ hay) (suc n) within none =
    passed_by (f ++ x ∷ []) (longest_ending E (f ++ x ∷ [])) (first_ended E (f ++ x ∷ []) (take n hay))
    (silent f x (not_true (test x) (none 0 (omega arith) (omega arith))))
    (silent_to E test silent (f ++ x ∷ []) hay n (omega arith) (λ k low high. none (suc k) (omega arith) (omega arith)))

unended_to : (E : List (List ℕ)) (test : ℕ → Bool) → Silent E test → (r s : List ℕ) (at n : ℕ) → Unended E (r ++ take at s) → n ≤ length (drop at s) → NoneTo test (drop at s) n → Unended E (r ++ take (at + n) s)
unended_to E test silent r s at n still within none =
    let joined : r ++ take (at + n) s ≡ (r ++ take at s) ++ take n (drop at s) = ap (λ w. r ++ w) (take-add at n s) ∙ sym (append_assoc r (take at s) (take n (drop at s))) in
    ap (λ w. first_ended E [] w) joined ∙ none_then E (r ++ take at s) (take n (drop at s)) still ∙ silent_to E test silent (r ++ take at s) (drop at s) n within none

-- the bytes up to the first one behind `at` that passes the test
pub to_candidate : (E : List (List ℕ)) (test : ℕ → Bool) → Silent E test → (r s hay : List ℕ) (at n : ℕ) → hay ≡ drop at s → at ≤ length s → n < length hay → NoneTo test hay n → test (slice_index hay n) ≡ true
    → Unended E (r ++ take at s) → Unended E (r ++ take (at + n) s) × (at + n < length s) × (test (slice_index s (at + n)) ≡ true)
to_candidate E test silent r s hay at n same within there none passes still =
    let size : length hay ≡ length s - at = ap (λ w. length w) same ∙ length-drop at s in
    let N : List ℕ → Type 0 = λ w. NoneTo test w n in (
      unended_to E test silent r s at n still (omega (arith, size, length-drop at s)) (subst N same none),
      omega (arith, size),
      ap (λ x. test x) (sym (get_or-drop at s n 0)) ∙ ap (λ w. test (slice_index w n)) (sym same) ∙ passes,
    )

-- no byte behind `at` passes the test
pub no_candidate : (E : List (List ℕ)) (test : ℕ → Bool) → Silent E test → (r s hay : List ℕ) (at : ℕ) → hay ≡ drop at s → at ≤ length s → NoneTo test hay (length hay) → Unended E (r ++ take at s) → Unended E (r ++ s)
no_candidate E test silent r s hay at same within none still =
    let size : length hay ≡ length s - at = ap (λ w. length w) same ∙ length-drop at s in
    let N : List ℕ → Type 0 = λ w. NoneTo test w (length s - at) in
    let every : NoneTo test hay (length s - at) = λ k low high. none k low (omega (arith, size)) in
    let all : take (at + (length s - at)) s ≡ s = take_all (at + (length s - at)) s (omega arith) in
    let U : List ℕ → Type 0 = λ w. Unended E (r ++ w) in
    subst U all (unended_to E test silent r s at (length s - at) still (omega (arith, length-drop at s)) (subst N same every))

-- the bytes up to a place, and the byte there
pub to_byte : (r s : List ℕ) (place : ℕ) → place < length s → r ++ take (place + 1) s ≡ (r ++ take place s) ++ slice_index s place ∷ []
to_byte r s place within = ap (λ w. r ++ w) (take_more s place 0 within) ∙ sym (append_assoc r (take place s) (slice_index s place ∷ []))

-- what is found at a byte behind which no ending stands before
at_byte : (E : List (List ℕ)) (r s : List ℕ) (place : ℕ) → place < length s → Unended E (r ++ take place s)
    → first_ended E [] (r ++ take (place + 1) s) ≡ ended_or (r ++ take (place + 1) s) (longest_ending E (r ++ take (place + 1) s)) None
at_byte E r s place within still =
    let joined = to_byte r s place within in
    let P : List ℕ → Type 0 = λ w. first_ended E [] w ≡ ended_or w (longest_ending E w) None in
    subst P (sym joined) (none_then E (r ++ take place s) (slice_index s place ∷ []) still)

-- no ending has its last byte at a place
pub none_here : (E : List (List ℕ)) (r s : List ℕ) (place : ℕ) → place < length s → Unended E (r ++ take place s) → longest_ending E (r ++ take (place + 1) s) ≡ None → Unended E (r ++ take (place + 1) s)
none_here E r s place within still none =
    at_byte E r s place within still ∙ ap (λ o. ended_or (r ++ take (place + 1) s) o None) none

-- what is found is an ending of what stands before it
pub found_ending : (E : List (List ℕ)) → ((m : List ℕ) → Contains E m → 0 < length m) → (s : List ℕ) (p : List ℕ × List ℕ) → first_ended E [] s ≡ Some p → IsFirstEnding E s p.0 p.1
found_ending E some s p is =
    let P : Option (List ℕ × List ℕ) → Type 0 = λ o. MatchOption o ((n : ℕ) → NoneEnds E (take n s)) (λ found. IsFirstEnding E s found.0 found.1) in
    subst P is (first_ending E some s)

-- an ending has its last byte at a place
pub ending_here : (E : List (List ℕ)) → ((m : List ℕ) → Contains E m → 0 < length m) → (r s : List ℕ) (place size : ℕ) (m : List ℕ) → place < length s → Unended E (r ++ take place s)
    → longest_ending E (r ++ take (place + 1) s) ≡ Some m → length m ≡ size → FindsEnding E r s (Some (record { place = place; size = size }))
ending_here E some r s place size m within still is sized =
    let front = r ++ take (place + 1) s in
    let found : first_ended E [] front ≡ Some (front, m) = at_byte E r s place within still ∙ ap (λ o. ended_or front o None) is in
    let first = found_ending E some front (front, m) found in (
      within,
      omega (arith, ap (λ (w : List ℕ). length w) first.ends.1, length-append first.ends.0 m, ap (λ (w : List ℕ). length w) (to_byte r s place within), length-append (r ++ take place s) (slice_index s place ∷ []), length-append r (take place s), length-take-le place s (omega arith)),
      (m, sized, found),
    )
