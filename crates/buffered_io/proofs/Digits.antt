-- Numbers in decimal, and bytes in hexadecimal.
use Rattle.std.proofs.Common.{rules, ◌≡◌, ℕ, ◌+◌, ◌/◌, ◌%◌, ◌<◌, ◌≤◌, List, [], ◌∷◌, ◌++◌, length, take, drop, slice_index, slice_set, refl, sym, ap, append_assoc, ◌∙◌, ◌^◌, arith}
use Rattle.std.specs.Prelude.{decimal}
use Rattle.std.proofs.lemmas.Fmt.{decimal_digit, length-decimal-le}
use Rattle.std.proofs.lemmas.Grind.{common_steps, take-set_at}
use Rattle.std.proofs.Math.Seq.{take-add, take-append_seam}
use Rattle.hex.specs.Hex.{encode_lower, encode_with, lower_digits}
use Rattle.itoa.proofs.Decimal.{decimal_two, length_one, length_two, length_pair, length_four}

pub encode_nothing : encode_lower [] ≡ []
unfolding encode_with
encode_nothing = refl

pub encode-append : (xs ys : List ℕ) → encode_lower (xs ++ ys) ≡ encode_lower xs ++ encode_lower ys
unfolding encode_with
encode-append [] ys = refl
encode-append (x ∷ xs) ys = ap (λ w. slice_index lower_digits (x / 16) ∷ slice_index lower_digits (x % 16) ∷ w) (encode-append xs ys)

-- a text that was written at a place of a room
pub written_at : (room new text behind : List ℕ) (at n : ℕ) → take at new ≡ take at room → drop at new ≡ text ++ behind → n ≡ length text → take (at + n) new ≡ take at room ++ text
written_at room new text behind at n before there count =
    ap (λ m. take (at + m) new) count
    ∙ take-add at (length text) new
    ∙ ap (λ w. w ++ take (length text) (drop at new)) before
    ∙ ap (λ w. take at room ++ take (length text) w) there
    ∙ ap (λ w. take at room ++ w) (take-append_seam text behind)

-- a number of one digit that was put at a place of a room
pub one_put : (room : List ℕ) (at n : ℕ) → n < 10 → at + 1 ≤ length room → take (at + 1) (slice_set room at (48 + n)) ≡ take at room ++ decimal n
one_put room at n low within = rw (decimal_digit n low) (take-set_at room at (at + 1) (48 + n) refl (omega (arith, within)))

-- a number of two digits that was put at a place of a room
pub two_put : (room : List ℕ) (at n : ℕ) → 10 ≤ n → n < 100 → at + 2 ≤ length room
    → take (at + 2) (slice_set (slice_set room at (48 + n / 10)) (at + 1) (48 + n % 10)) ≡ take at room ++ decimal n
two_put room at n low high within =
    let tens : List ℕ = slice_set room at (48 + n / 10) in
    let fits : at + 1 < length tens = grind (arith, common_steps, within) in
    rw (decimal_two n low high)
    (take-set_at tens (at + 1) (at + 2) (48 + n % 10) (omega arith) fits
    ∙ ap (λ w. w ++ (48 + n % 10) ∷ []) (take-set_at room at (at + 1) (48 + n / 10) refl (omega (arith, within)))
    ∙ append_assoc (take at room) ((48 + n / 10) ∷ []) ((48 + n % 10) ∷ []))

-- how many digits a number below 10,000 has
pub short_length : (n : ℕ) → n < 10000
    → (n < 10 → 1 ≡ length (decimal n)) × (10 ≤ n → n < 100 → 2 ≡ length (decimal n)) × (100 ≤ n → n < 1000 → 3 ≡ length (decimal n)) × (1000 ≤ n → 4 ≡ length (decimal n))
short_length n high = (
  λ h. sym (length_one n h),
  λ low h. sym (length_two n low h),
  λ low h. omega (arith, length_pair n low (omega (arith, h)), length_one (n / 100) (omega (arith, h))),
  λ low. omega (arith, length_pair n (omega (arith, low)) (omega (arith, high)), length_two (n / 100) (omega (arith, low)) (omega (arith, high))),
)

-- four digits fewer are left
pub four_fewer : (n : ℕ) (count left : ℕ) → 10000 ≤ left → left < 2 ^ 64 → count + length (decimal left) ≡ length (decimal n) → count + 4 + length (decimal (left / 10000)) ≡ length (decimal n)
four_fewer n count left low high is = omega (arith, length_four left low high, is)

pub at_most_twenty : (n : ℕ) → n < 2 ^ 64 → length (decimal n) ≤ 20
at_most_twenty n high = search (rules, length-decimal-le 20)
