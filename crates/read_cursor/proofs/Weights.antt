-- Numbers of byte lists, byte by byte.
use Rattle.std.proofs.Common.{◌≡◌, ℕ, zero, suc, ◌+◌, ◌*◌, ◌^◌, ◌<◌, ◌≤◌, List, [], ◌∷◌, ◌++◌, length, take, drop, reverse, slice_index_or, refl, ap, sym, ◌∙◌, arith, drop-cons, add-one}
use Rattle.std.proofs.lemmas.List.{take_more, take_all}
use Rattle.std.proofs.Math.Nat.{pow-le-pow_right, pow-suc}
use Rattle.std.proofs.lemmas.Grind.{reverse_onto, fold-append}
use Rattle.frame_head.specs.Numbers.{number}

pub number_more : (xs : List ℕ) (x : ℕ) → number (xs ++ x ∷ []) ≡ 256 * number xs + x
number_more xs x = fold-append (λ n y. 256 * n + y) 0 xs (x ∷ [])

pub number_taken : (xs : List ℕ) (i : ℕ) → i < length xs → number (take (i + 1) xs) ≡ 256 * number (take i xs) + slice_index_or xs i 0
number_taken xs i h = ap (λ w. number w) (take_more xs i 0 h) ∙ number_more (take i xs) (slice_index_or xs i 0)

pub number_left : (xs : List ℕ) (i : ℕ) → i < length xs → number (reverse (drop i xs)) ≡ 256 * number (reverse (drop (i + 1) xs)) + slice_index_or xs i 0
number_left xs i h = ap (λ w. number (reverse w)) (drop-cons xs i 0 h)
    ∙ ap (λ w. number w) (reverse_onto (drop (suc i) xs) (slice_index_or xs i 0) [])
    ∙ number_more (reverse (drop (suc i) xs)) (slice_index_or xs i 0)
    ∙ ap (λ w. 256 * number (reverse (drop w xs)) + slice_index_or xs i 0) (sym (add-one i))

-- a number of less than 16 bytes has room for one more
pub room : (n i : ℕ) → n < 256 ^ i → i < 16 → n < 1329227995784915872903807060280344576
room n i below few =
    let some : zero < 256 = omega arith in
    let most : 256 ^ i ≤ 256 ^ 15 = let few_of : i ≤ 15 = omega arith in pow-le-pow_right some few_of in
    let e : 256 ^ 15 ≡ 1329227995784915872903807060280344576 = refl in
    omega (arith, below, most, e)

pub below_more : (n x i : ℕ) → n < 256 ^ i → x < 256 → 256 * n + x < 256 ^ (i + 1)
below_more n x i below small = rw (add-one i, pow-suc 256 i) (omega (arith, below, small))
