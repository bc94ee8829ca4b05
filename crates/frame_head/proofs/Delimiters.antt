-- Lists of delimiters, one more at a time.
use Rattle.std.proofs.Common.{◌≡◌, ℕ, zero, suc, ◌+◌, ◌≤◌, ◌==◌, Bool, true, false, ◌||◌, List, [], ◌∷◌, ◌++◌, Option, Some, None, length, take, drop, refl, ap, arith, nat_lt, max, ltb-false, slice_get, add-one}
use Rattle.std.specs.List.{list_any}
use Rattle.std.proofs.lemmas.Bool.{or_parts}
use Rattle.frame_head.specs.declared.checks.CodecFault.{CodecFault}
use Rattle.frame_head.specs.declared.checks.CodecFault.TheVariants.{ZeroLen, NoDelim, DelimOver}
use Rattle.frame_head.specs.Checks.{first_fault, fault_if, marks_fault, size_fault}
use Rattle.frame_head.specs.Longest.{longest_mark}

pub take_next : {X : Type 0} (xs : List X) (i : ℕ) (x : X) → slice_get xs i ≡ Some x → take (i + 1) xs ≡ take i xs ++ x ∷ []
take_next [] i x e = absurd (cc)
take_next (y ∷ xs) zero x e = let same : y ≡ x = cc in ap (λ z. z ∷ []) same
take_next (y ∷ xs) (suc i) x e = rw add-one (ap (λ l. y ∷ l) (rw add-one at (take_next xs i x e)))

pub drop_next : {X : Type 0} (xs : List X) (i : ℕ) (x : X) → slice_get xs i ≡ Some x → drop i xs ≡ x ∷ drop (i + 1) xs
drop_next [] i x e = absurd (cc)
drop_next (y ∷ xs) zero x e = let same : y ≡ x = cc in ap (λ z. z ∷ xs) same
drop_next (y ∷ xs) (suc i) x e = rw add-one (rw add-one at (drop_next xs i x e))

-- the longest of some delimiters, with one more of them seen
pub longest_next : (xs : List (List ℕ)) (i : ℕ) (x : List ℕ) (n : ℕ) → slice_get xs i ≡ Some x → max n (longest_mark (drop i xs)) ≡ max (max n (length x)) (longest_mark (drop (i + 1) xs))
longest_next xs i x n e = rw (drop_next xs i x e) (omega arith)

-- delimiters that none is over 64 bytes
pub longest_within : (list : List (List ℕ)) → list_any (λ m. nat_lt 64 (length m)) list ≡ false → longest_mark list ≤ 64
longest_within [] e = omega arith
longest_within (m ∷ list) e =
    let parts = or_parts (nat_lt 64 (length m)) (list_any (λ m. nat_lt 64 (length m)) list) e in
    let short = ltb-false 64 (length m) parts.0 in
    let others = longest_within list parts.1 in
    omega arith

no_first : (f g : Option CodecFault) → first_fault f g ≡ None → (f ≡ None) × (g ≡ None)
no_first None g e = (refl, e)
no_first (Some f) g e = absurd (cc)

no_fault : (b : Bool) (f : CodecFault) → fault_if b f ≡ None → b ≡ false
no_fault true f e = absurd (cc)
no_fault false f e = refl

-- passed delimiters aren't long
pub marks_within : (list : List (List ℕ)) (greatest : ℕ) → marks_fault list greatest ≡ None → longest_mark list ≤ 64
marks_within list greatest e =
    let others = no_first (fault_if (list_any (λ m. length m == 0) list) ZeroLen) _ e in
    let later = no_first (size_fault greatest) _ others.1 in
    let last = no_first (fault_if (length list == 0) NoDelim) _ later.1 in
    let both = no_fault (nat_lt 8 (length list) || list_any (λ m. nat_lt 64 (length m)) list) DelimOver last.1 in
    longest_within list (or_parts (nat_lt 8 (length list)) (list_any (λ m. nat_lt 64 (length m)) list) both).1
