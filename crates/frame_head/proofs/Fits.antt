-- What a field can hold, and where its frame ends.
use Rattle.std.proofs.Common.{◌≡◌, ℕ, suc, ◌+◌, ◌-◌, ◌*◌, ◌^◌, ◌<◌, ◌≤◌, ℤ, pos, negsuc, Bool, true, false, List, [], ◌∷◌, Some, None, length, fold, reverse, nat_lt, if◌then◌else◌, All, slice_index_or, refl, arith, ltb-false, ltb-true, subst}
use Rattle.std.proofs.Math.Nat.{mul-le-mul_left, pow-suc}
use Rattle.std.proofs.lemmas.List.{length-reverse, get_or-reverse}
use Rattle.frame_head.specs.Numbers.{number, number_in_order, adjusted}
use Rattle.frame_head.specs.Longest.{longest_up_to}

pub tail : {X : Type 0} (P : X → Type 0) (x : X) (xs : List X) → All P (x ∷ xs) → All P xs
tail P x xs all = λ k d within. all (suc k) d (omega arith)

pub front : {X : Type 0} (P : X → Type 0) (x : X) (xs : List X) → All P (x ∷ xs) → P x
front P x xs all = all 0 x (omega arith)

pub all_reversed : (xs : List ℕ) → All (λ b. b < 256) xs → All (λ b. b < 256) (reverse xs)
all_reversed xs all = λ k d within.
    let inside : k < length xs = omega (arith, length-reverse xs) in
    let e : slice_index_or (reverse xs) k d ≡ slice_index_or xs (length xs - 1 - k) d = get_or-reverse xs k d inside in
    omega (arith, e, all (length xs - 1 - k) d (omega arith))

one_more : (n x p : ℕ) → x < 256 → (256 * n + x + 1) * p ≤ (n + 1) * (p * 256)
one_more n x p small =
    let most : 256 * n + x + 1 ≤ 256 * (n + 1) = omega arith in
    omega (arith, mul-le-mul_left p most)

folded_within : (n : ℕ) (xs : List ℕ) → All (λ b. b < 256) xs → fold (λ n x. 256 * n + x) n xs + 1 ≤ (n + 1) * 256 ^ length xs
folded_within n [] all = omega arith
folded_within n (x ∷ xs) all =
    let later = folded_within (256 * n + x) xs (tail (λ b. b < 256) x xs all) in
    let step = one_more n x (256 ^ length xs) (front (λ b. b < 256) x xs all) in
    rw (pow-suc 256 (length xs)) (omega arith)

number_within : (xs : List ℕ) → All (λ b. b < 256) xs → number xs ≤ 256 ^ length xs - 1
number_within xs all = omega (arith, folded_within 0 xs all)

-- a field holds no greater number than it can
pub field_within : (little : Bool) (xs : List ℕ) → All (λ b. b < 256) xs → number_in_order little xs ≤ 256 ^ length xs - 1
field_within false xs all = number_within xs all
field_within true xs all =
    let bytes = all_reversed xs all in
    let P : ℕ → Type 0 = λ n. number (reverse xs) ≤ 256 ^ n - 1 in
    let e : length (reverse xs) ≡ length xs = length-reverse xs in
    subst P e (number_within (reverse xs) bytes)

below : (x y : Bool) (greatest strip v w e a n : ℕ) → v ≤ w → n + e ≤ greatest → nat_lt v (a + 1) ≡ x → nat_lt (w + e) (a + 1) ≡ y → (if x then None else Some (v - (a + 1))) ≡ Some n
    → n + e - strip ≤ longest_up_to greatest strip (if y then None else Some (w + e - (a + 1)))
below true y greatest strip v w e a n less within p q is = absurd (cc)
below false true greatest strip v w e a n less within p q is = absurd (omega (arith, ltb-false v (a + 1) p, ltb-true (w + e) (a + 1) q))
below false false greatest strip v w e a n less within p q is = let same : v - (a + 1) ≡ n = cc in omega (arith, ltb-false v (a + 1) p)

-- the end of a frame whose field holds `v`, beside the end that the greatest number gives
pub end_within : (greatest strip v w e n : ℕ) (adjust : ℤ) → v ≤ w → adjusted v adjust ≡ Some n → n + e ≤ greatest
    → n + e - strip ≤ longest_up_to greatest strip (adjusted (w + e) adjust)
end_within greatest strip v w e n (pos a) less is within = let same : v + a ≡ n = cc in omega arith
end_within greatest strip v w e n (negsuc a) less is within = below (nat_lt v (a + 1)) (nat_lt (w + e) (a + 1)) greatest strip v w e a n less within refl refl is
