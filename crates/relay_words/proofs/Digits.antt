-- Numbers of digits are small.
use Rattle.std.proofs.Common.{◌≡◌, ℕ, ◌+◌, ◌-◌, ◌*◌, ◌^◌, ◌<◌, ◌≤◌, Bool, true, false, List, [], ◌∷◌, length, take, fold, nat_le, nat_lt, slice_index, refl, arith, length-take, leb-true, le-leb, zero, suc}
use Rattle.std.specs.Prelude.{◌&&◌, ◌||◌, ◌==◌, not}
use Rattle.std.specs.List.{list_all}
use Rattle.std.specs.Int.{IsInRange}
use Rattle.std.proofs.lemmas.Str.Parse.{IsNumeralModel, numerals_by_fold, digits_value_short}
use Rattle.relay_words.specs.Numbers.{is_digit, is_number, decimal}

and_parts : (a b : Bool) → (a && b) ≡ true → (a ≡ true) × (b ≡ true)
and_parts true b e = (refl, e)
and_parts false b e = absurd (cc)

both : (a b : Bool) → a ≡ true → b ≡ true → (a && b) ≡ true
both true b p q = q
both false b p q = absurd (cc)

digit_parts : (c : ℕ) → is_digit c ≡ true → IsInRange 48 57 c
digit_parts c e =
    let parts = and_parts (nat_le 48 c) (nat_le c 57) e in
    (leb-true 48 c parts.0, leb-true c 57 parts.1)

own : IsNumeralModel (λ ds. list_all is_digit ds ≡ true) decimal
own = numerals_by_fold (λ ds. list_all is_digit ds ≡ true) (record {
  empty = refl;
  parts = λ c cs h. let e = and_parts (is_digit c) (list_all is_digit cs) h in (digit_parts c e.0, e.1);
  more = λ c cs r h. both (is_digit c) (list_all is_digit cs) (both (nat_le 48 c) (nat_le c 57) (le-leb 48 c r.0) (le-leb c 57 r.1)) h;
})
    (λ n w. fold (λ n d. n * 10 + (d - 48)) n w) (record { empty = λ n. refl; more = λ n c cs r. refl })

all_taken : (n : ℕ) (w : List ℕ) → list_all is_digit w ≡ true → list_all is_digit (take n w) ≡ true
all_taken zero w e = refl
all_taken (suc n) [] e = refl
all_taken (suc n) (c ∷ w) e =
    let parts = and_parts (is_digit c) (list_all is_digit w) e in
    both (is_digit c) (list_all is_digit (take n w)) parts.0 (all_taken n w parts.1)

digit_in : (w : List ℕ) (i : ℕ) → list_all is_digit w ≡ true → i < length w → (48 ≤ slice_index w i) × (slice_index w i ≤ 57)
digit_in [] i e inside = absurd (omega arith)
digit_in (c ∷ w) zero e inside = digit_parts c (and_parts (is_digit c) (list_all is_digit w) e).0
digit_in (c ∷ w) (suc i) e inside = digit_in w i (and_parts (is_digit c) (list_all is_digit w) e).1 (omega arith)

record Parts (w : List ℕ) : Type 0 where
  digits : list_all is_digit w ≡ true
  short : length w ≤ 13

parts_of : (w : List ℕ) → is_number w ≡ true → Parts w
parts_of w e =
    let front = and_parts (list_all is_digit w && nat_lt 0 (length w) && nat_le (length w) 13) (length w == 1 || not (slice_index w 0 == 48)) e in
    let short = and_parts (list_all is_digit w && nat_lt 0 (length w)) (nat_le (length w) 13) front.0 in
    let some = and_parts (list_all is_digit w) (nat_lt 0 (length w)) short.0 in
    record { digits = some.0; short = leb-true (length w) 13 short.1 }

-- the number of the first digits of a number, with one more to come
pub first_digits : (w : List ℕ) (i : ℕ) → is_number w ≡ true → i < length w → decimal (take i w) < 10 ^ 12
first_digits w i e inside =
    let parts = parts_of w e in
    digits_value_short own (take i w) 12 (all_taken i w parts.digits) (omega (arith, length-take i w, parts.short))

pub digit_at : (w : List ℕ) (i : ℕ) → is_number w ≡ true → i < length w → (48 ≤ slice_index w i) × (slice_index w i ≤ 57)
digit_at w i e inside = digit_in w i (parts_of w e).digits inside
