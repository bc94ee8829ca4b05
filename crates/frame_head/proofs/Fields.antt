-- Numbers in the field before a frame.
use Rattle.std.proofs.Common.{◌≡◌, ℕ, zero, suc, ◌+◌, ◌-◌, ◌*◌, ◌/◌, ◌%◌, ◌^◌, ◌<◌, Bool, true, false, List, [], ◌∷◌, ◌++◌, length, take, reverse, All, slice_set, refl, ap, sym, ◌∙◌, arith, append_assoc}
use Rattle.std.proofs.Math.Nat.{pow-suc}
use Rattle.std.proofs.Math.Arith.{mod-mul}
use Rattle.std.proofs.lemmas.Grind.{reverse_onto}
use Rattle.std.proofs.lemmas.List.{length-reverse, take_more_set}
use Rattle.std.proofs.lemmas.List.Sums.{fold-append}
use Rattle.std.proofs.lemmas.List.Elements.{All-nil, All-cons}
use Rattle.frame_head.specs.Numbers.{number, number_in_order}
use Rattle.frame_head.specs.Framed.{low_bytes, field_bytes}
use Rattle.frame_head.proofs.Fits.{all_reversed}

-- one byte more of a field is written
pub low_written : (xs : List ℕ) (i left n : ℕ) (all : List ℕ) → i < length xs → i < n → take i xs ++ low_bytes (n - i) left ≡ all
    → take (i + 1) (slice_set xs i (left % 256)) ++ low_bytes (n - (i + 1)) (left / 256) ≡ all
low_written xs i left n all within below is =
    let e : n - i ≡ suc (n - (i + 1)) = omega arith in
    ap (λ w. w ++ low_bytes (n - (i + 1)) (left / 256)) (take_more_set xs i (left % 256) within)
    ∙ append_assoc (take i xs) (left % 256 ∷ []) (low_bytes (n - (i + 1)) (left / 256))
    ∙ sym (ap (λ w. take i xs ++ low_bytes w left) e) ∙ is

low_count : (k n : ℕ) → length (low_bytes k n) ≡ k
low_count zero n = refl
low_count (suc k) n = ap (λ w. suc w) (low_count k (n / 256))

low_all : (k n : ℕ) → All (λ b. b < 256) (low_bytes k n)
low_all zero n = All-nil (λ b. b < 256)
low_all (suc k) n = All-cons (λ b. b < 256) (n % 256) (low_bytes k (n / 256)) (omega arith) (low_all k (n / 256))

-- the number of a list with a byte of least weight more
number_more : (xs : List ℕ) (x : ℕ) → number (xs ++ x ∷ []) ≡ 256 * number xs + x
number_more xs x = fold-append (λ n x. 256 * n + x) 0 xs (x ∷ [])

pub some_power : (k : ℕ) → 0 < 256 ^ k
some_power zero = omega arith
some_power (suc k) = omega (arith, pow-suc 256 k, some_power k)

low_number : (k n : ℕ) → number (reverse (low_bytes k n)) ≡ n % 256 ^ k
low_number zero n = omega arith
low_number (suc k) n =
    let later : number (reverse (low_bytes k (n / 256))) ≡ n / 256 % 256 ^ k = low_number k (n / 256) in
    let parts : n % (256 ^ k * 256) ≡ (n / 256 % 256 ^ k) * 256 + n % 256 = mod-mul n (some_power k) (omega arith) in
    let power : n % 256 ^ suc k ≡ n % (256 ^ k * 256) = ap (λ w. n % w) (pow-suc 256 k) in
    ap (λ w. number w) (reverse_onto (low_bytes k (n / 256)) (n % 256) []) ∙ number_more (reverse (low_bytes k (n / 256))) (n % 256)
    ∙ omega (arith, later, parts, power)

pub field_count : (k : ℕ) (little : Bool) (n : ℕ) → length (field_bytes k little n) ≡ k
field_count k true n = low_count k n
field_count k false n = length-reverse (low_bytes k n) ∙ low_count k n

pub field_all : (k : ℕ) (little : Bool) (n : ℕ) → All (λ b. b < 256) (field_bytes k little n)
field_all k true n = low_all k n
field_all k false n = all_reversed (low_bytes k n) (low_all k n)

pub field_number : (k : ℕ) (little : Bool) (n : ℕ) → number_in_order little (field_bytes k little n) ≡ n % 256 ^ k
field_number k true n = low_number k n
field_number k false n = low_number k n
