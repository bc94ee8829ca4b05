-- Sizes of delimiters.
use Rattle.std.proofs.Common.{◌≡◌, ℕ, zero, suc, ◌-◌, ◌<◌, ◌≤◌, Bool, true, false, ◌||◌, ◌==◌, List, [], ◌∷◌, Option, Some, None, length, drop, nat_eq, nat_lt, slice_get, if◌then◌else◌, refl, ap, sym, ◌∙◌, arith}
use Rattle.std.proofs.lemmas.Bool.{or_parts, ltb-false}
use Rattle.std.specs.List.{ends_with, list_any, Contains}
use Rattle.std.specs.Option.{option_map}
use Rattle.frame_head.specs.Checks.{first_fault, fault_if, marks_fault, size_fault}
use Rattle.frame_head.specs.Endings.{longer, longest_ending}
use Rattle.frame_delim.specs.Marks.{NoneEmpty, NoneOver, longer_size}

-- of two delimiters the longer has the greater size
size_by : (less : Bool) (m k : List ℕ) → option_map (λ (w : List ℕ). length w) (if less then Some k else Some m) ≡ Some (if less then length k else length m)
size_by true m k = refl
size_by false m k = refl

size_longer : (m : List ℕ) (o : Option (List ℕ)) → option_map (λ (w : List ℕ). length w) (longer m o) ≡ Some (longer_size (length m) (option_map (λ (w : List ℕ). length w) o))
size_longer m None = refl
size_longer m (Some k) = size_by (nat_lt (length m) (length k)) m k

from_place : (E : List (List ℕ)) (j : ℕ) (m : List ℕ) → slice_get E j ≡ Some m → drop j E ≡ m ∷ drop (suc j) E
from_place [] j m is = absurd (cc is)
from_place (x ∷ E) zero m is = let same : x ≡ m = cc is in ap (λ w. w ∷ E) same
from_place (x ∷ E) (suc j) m is = from_place E j m is

-- one delimiter more, which is there
pub longest_here : (E : List (List ℕ)) (i : ℕ) (m s : List ℕ) (o : Option ℕ) → 0 < i → slice_get E (i - 1) ≡ Some m → ends_with nat_eq s m ≡ true → o ≡ option_map (λ (w : List ℕ). length w) (longest_ending (drop i E) s)
    → Some (longer_size (length m) o) ≡ option_map (λ (w : List ℕ). length w) (longest_ending (drop (i - 1) E) s)
longest_here E i m s o some at ends is =
    let next : suc (i - 1) ≡ i = omega arith in
    let front : longest_ending (drop (i - 1) E) s ≡ longer m (longest_ending (drop i E) s) =
    (ap (λ w. longest_ending w s) (from_place E (i - 1) m at) ∙ ap (λ b. if b then longer m (longest_ending (drop (suc (i - 1)) E) s) else longest_ending (drop (suc (i - 1)) E) s) ends ∙ ap (λ n. longer m (longest_ending (drop n E) s)) next) in
    ap (λ k. Some (longer_size (length m) k)) is ∙ sym (size_longer m (longest_ending (drop i E) s)) ∙ ap (λ w. option_map (λ (w : List ℕ). length w) w) (sym front)

-- one delimiter more, which isn't there
pub longest_not_here : (E : List (List ℕ)) (i : ℕ) (m s : List ℕ) (o : Option ℕ) → 0 < i → slice_get E (i - 1) ≡ Some m → ends_with nat_eq s m ≡ false → o ≡ option_map (λ (w : List ℕ). length w) (longest_ending (drop i E) s)
    → o ≡ option_map (λ (w : List ℕ). length w) (longest_ending (drop (i - 1) E) s)
longest_not_here E i m s o some at not is =
    let next : suc (i - 1) ≡ i = omega arith in
    let front : longest_ending (drop (i - 1) E) s ≡ longest_ending (drop i E) s =
    (ap (λ w. longest_ending w s) (from_place E (i - 1) m at) ∙ ap (λ b. if b then longer m (longest_ending (drop (suc (i - 1)) E) s) else longest_ending (drop (suc (i - 1)) E) s) not ∙ ap (λ n. longest_ending (drop n E) s) next) in
    is ∙ ap (λ w. option_map (λ (w : List ℕ). length w) w) (sym front)

-- a size is that of an ending
pub of_size : (o : Option (List ℕ)) (n : ℕ) → Some n ≡ option_map (λ (w : List ℕ). length w) o → (m : List ℕ) × (o ≡ Some m) × (length m ≡ n)
of_size None n is = absurd (cc is)
of_size (Some m) n is = let same : n ≡ length m = cc is in (m, refl, sym same)

pub of_none : (o : Option (List ℕ)) → None ≡ option_map (λ (w : List ℕ). length w) o → o ≡ None
of_none None is = refl
of_none (Some m) is = absurd (cc is)

-- no element of a list passes a test
none_pass : (test : List ℕ → Bool) (E : List (List ℕ)) → list_any test E ≡ false → (m : List ℕ) → Contains E m → test m ≡ false
none_pass test [] none m (k, below, is) = absurd (omega arith)
none_pass test (x ∷ E) none m (zero, below, is) = ap (λ w. test w) (sym is) ∙ (or_parts (test x) (list_any test E) none).0
none_pass test (x ∷ E) none m (suc k, below, is) = none_pass test E (or_parts (test x) (list_any test E) none).1 m (k, omega arith, is)

some_by : (n : ℕ) → (n == 0) ≡ false → 0 < n
some_by zero is = absurd (cc is)
some_by (suc n) is = omega arith

-- no fault comes first where no fault comes at all
not_if : (b : Bool) (f : Rattle.frame_head.specs.declared.checks.CodecFault.CodecFault) (g : Option Rattle.frame_head.specs.declared.checks.CodecFault.CodecFault) → first_fault (fault_if b f) g ≡ None → (b ≡ false) × (g ≡ None)
not_if true f g is = absurd (cc is)
not_if false f g is = (refl, is)

not_alone : (b : Bool) (f : Rattle.frame_head.specs.declared.checks.CodecFault.CodecFault) → fault_if b f ≡ None → b ≡ false
not_alone true f is = absurd (cc is)
not_alone false f is = refl

not_first : (f g : Option Rattle.frame_head.specs.declared.checks.CodecFault.CodecFault) → first_fault f g ≡ None → (f ≡ None) × (g ≡ None)
not_first None g is = (refl, is)
not_first (Some f) g is = absurd (cc is)

size_within_by : (a b : Bool) (f g : Rattle.frame_head.specs.declared.checks.CodecFault.CodecFault) → (if a then Some f else if b then Some g else None) ≡ None → b ≡ false
size_within_by true b f g is = absurd (cc is)
size_within_by false true f g is = absurd (cc is)
size_within_by false false f g is = refl

-- what `check` says of delimiters that it passes
pub record Passed (list : List (List ℕ)) (max : ℕ) : Type 0 where
  pub some : NoneEmpty list
  pub few : NoneOver 64 list
  pub within : max ≤ 16777216

pub passed : (list : List (List ℕ)) (max : ℕ) → marks_fault list max ≡ None → Passed list max
passed list max checked =
    let a = not_if (list_any (λ m. length m == 0) list) _ _ checked in
    let b = not_first (size_fault max) _ a.1 in
    let c = not_if (length list == 0) _ _ b.1 in
    let d = or_parts (nat_lt 8 (length list)) (list_any (λ m. nat_lt 64 (length m)) list) (not_alone (nat_lt 8 (length list) || list_any (λ m. nat_lt 64 (length m)) list) _ c.1) in record {
      some = λ m there. some_by (length m) (none_pass (λ m. length m == 0) list a.0 m there);
      few = λ m there. ltb-false 64 (length m) (none_pass (λ m. nat_lt 64 (length m)) list d.1 m there);
      within = ltb-false 16777216 max (size_within_by (max == 0) (nat_lt 16777216 max) _ _ b.0);
    }
