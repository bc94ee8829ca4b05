-- Digits of 16 bytes at once.
use Rattle.std.proofs.Common.{◌≡◌, ℕ, zero, suc, ◌+◌, ◌-◌, ◌*◌, ◌/◌, ◌%◌, ◌<◌, ◌≤◌, Bool, true, false, cond, eqb, ltb, T, ◌&&◌, inl, inr, List, [], ◌∷◌, ◌++◌, All, map, length, take, drop, replicate, slice_index, slice_index_or, slice_range, Fits, w8, take_all, refl, sym, ap, subst, ◌∙◌, arith, eqb→eq, take-add, append_assoc}
use Rattle.std.proofs.lemmas.Bool.{cases_lt}
use Rattle.std.proofs.lemmas.List.{drop_more, get_or_append_left, get_or-append-add, get_or-map, length-map, take-take}
use Rattle.std.proofs.lemmas.Simd.{zip2_splat, map-map, take_more_put_chunk, length-put_chunk, length-chunk, chunk-fits, Each1-get_or}
use Rattle.std.specs.Simd.Lanes.{zip2, sel_l, put_chunk}
use Rattle.hex.specs.Hex.{encode_lower, encode_with, lower_digits}
use Rattle.buffered_io.proofs.Digits.{encode-append}

abbrev pub digit_at : ℕ → ℕ
digit_at v = slice_index lower_digits v

-- what is computed of a half byte
abbrev pub lane : ℕ → ℕ
lane v = (v + cond (ltb 9 v) 87 48) % 256

abbrev all_to : (p : ℕ → Bool) → ℕ → Bool
all_to p zero = true
all_to p (suc n) = p n && all_to p n

both_hold : (a b : Bool) → T (a && b) → T a × T b
both_hold true b h = (tt, h)
both_hold false b h = absurd h

holds_to : (p : ℕ → Bool) (n : ℕ) → T (all_to p n) → (i : ℕ) → i < n → T (p i)
holds_to p zero h i low = absurd (omega arith)
holds_to p (suc n) h i low =
    elim (cases_lt i n) [
      | inl less ↦ holds_to p n (both_hold (p n) (all_to p n) h).1 i less
      | inr same ↦ let e : n ≡ i = omega arith in subst (λ x. T (p x)) e (both_hold (p n) (all_to p n) h).0
    ]

lane_digit : (v : ℕ) → v < 16 → lane v ≡ digit_at v
lane_digit v low = eqb→eq (lane v) (digit_at v) (holds_to (λ x. eqb (lane x) (digit_at x)) 16 tt v low)

-- lanes below 16 become their digits
pub lanes_digits : (vs : List ℕ) → All (λ v. v < 16) vs → (n : ℕ) → length vs ≡ n
    → zip2 (λ a b. (a + b) % 256) vs (sel_l (zip2 ltb (replicate n 9) vs) (replicate n 87) (replicate n 48)) ≡ map digit_at vs
lanes_digits [] small n size = refl
lanes_digits (v ∷ vs) small zero size = absurd (omega arith)
lanes_digits (v ∷ vs) small (suc n) size =
    λ i. lane_digit v (small 0 0 (omega arith)) i ∷ lanes_digits vs (λ k d low. small (suc k) d (omega arith)) n (omega arith) i

-- each lane is low
pub all_low : (f : ℕ → ℕ) (vs : List ℕ) → ((k : ℕ) → k < length vs → f (slice_index vs k) < 16) → All (λ v. v < 16) (map f vs)
all_low f vs low k d within =
    let here : k < length vs = omega (arith, length-map vs f) in
    let is : slice_index_or (map f vs) k d ≡ f (slice_index vs k) = get_or-map f vs k 0 d here in omega (arith, low k here, is)

-- pairs of the lanes of two vectors of 16, from one place on
abbrev pub woven : List ℕ → ℕ → ℕ → List ℕ
woven both at zero = []
woven both at (suc n) = slice_index_or both at 0 ∷ slice_index_or both (at + 16) 0 ∷ woven both (at + 1) n

-- the digits of the high halves and of the low ones, in pairs, are the bytes' digits
pub woven_digits : (xs : List ℕ) → length xs ≡ 16 → (n at : ℕ) → at + n ≤ 16
    → woven (map (λ x. digit_at (x / 16)) xs ++ map (λ x. digit_at (x % 16)) xs) at n ≡ encode_lower (take n (drop at xs))
unfolding encode_with
woven_digits xs size zero at within = refl
woven_digits xs size (suc n) at within =
    let high : List ℕ = map (λ x. digit_at (x / 16)) xs in
    let low : List ℕ = map (λ x. digit_at (x % 16)) xs in
    let count : length high ≡ 16 = length-map xs (λ x. digit_at (x / 16)) ∙ size in
    let first : slice_index_or (high ++ low) at 0 ≡ digit_at (slice_index xs at / 16) =
    get_or_append_left high low 0 at (omega (arith, count)) ∙ get_or-map (λ x. digit_at (x / 16)) xs at 0 0 (omega (arith, size)) in
    let place : at + 16 ≡ length high + at = omega (arith, count) in
    let second : slice_index_or (high ++ low) (at + 16) 0 ≡ digit_at (slice_index xs at % 16) =
    ap (λ k. slice_index_or (high ++ low) k 0) place ∙ get_or-append-add high low at 0 ∙ get_or-map (λ x. digit_at (x % 16)) xs at 0 0 (omega (arith, size)) in
    (λ i. first i ∷ second i ∷ woven_digits xs size n (at + 1) (omega arith) i)
    ∙ ap (λ w. encode_lower (take (suc n) w)) (sym (drop_more xs at 0 (omega (arith, size))))

-- the bytes of a load
pub loaded : (bytes : List ℕ) (at : ℕ) → ((k : ℕ) → Fits w8 (slice_index_or bytes k 0)) → (k : ℕ) → k < length (take 16 (drop at bytes)) → slice_index (take 16 (drop at bytes)) k < 256
loaded bytes at fits k low = (Each1-get_or (Fits w8) (take 16 (drop at bytes)) k 0 low (chunk-fits w8 at 16 bytes fits)).fits

pub high_low : (lanes : List ℕ) → length lanes ≡ 16 → ((k : ℕ) → k < length lanes → slice_index lanes k < 256) → All (λ v. v < 16) (zip2 (λ a b. a / b) lanes (replicate 16 16))
high_low lanes size bytes =
    subst (λ w. All (λ v. v < 16) w) (sym (zip2_splat (λ a b. a / b) lanes 16 16 size)) (all_low (λ x. x / 16) lanes (λ k low. let byte = bytes k low in omega (arith, byte)))

pub low_low : (lanes : List ℕ) → length lanes ≡ 16 → All (λ v. v < 16) (zip2 (λ a b. a % b) lanes (replicate 16 16))
low_low lanes size =
    subst (λ w. All (λ v. v < 16) w) (sym (zip2_splat (λ a b. a % b) lanes 16 16 size)) (all_low (λ x. x % 16) lanes (λ k low. omega arith))

-- the digits of one half of each lane
pub of_halves : (f : ℕ → ℕ → ℕ) (lanes digits : List ℕ) → length lanes ≡ 16 → digits ≡ map digit_at (zip2 f lanes (replicate 16 16)) → digits ≡ map (λ x. digit_at (f x 16)) lanes
of_halves f lanes digits size is = is ∙ ap (λ w. map digit_at w) (zip2_splat f lanes 16 16 size) ∙ map-map digit_at (λ x. f x 16) lanes

block_digits : (lanes high low : List ℕ) → length lanes ≡ 16 → high ≡ map (λ x. digit_at (x / 16)) lanes → low ≡ map (λ x. digit_at (x % 16)) lanes
    → woven (high ++ low) 0 8 ++ woven (high ++ low) 8 8 ≡ encode_lower lanes
block_digits lanes high low size highs lows =
    (λ i. woven (highs i ++ lows i) 0 8 ++ woven (highs i ++ lows i) 8 8)
    ∙ (λ i. woven_digits lanes size 8 0 (omega arith) i ++ woven_digits lanes size 8 8 (omega arith) i)
    ∙ sym (encode-append (take 8 lanes) (take 8 (drop 8 lanes)))
    ∙ ap encode_lower (sym (take-add 8 8 lanes) ∙ take_all 16 lanes (omega (arith, size)))

-- two vectors that are stored one behind the other
stored : (text front back : List ℕ) (at : ℕ) → length front ≡ 16 → length back ≡ 16 → 2 * (at + 16) ≤ length text
    → take (2 * (at + 16)) (put_chunk (2 * at + 16) (put_chunk (2 * at) text front) back) ≡ take (2 * at) text ++ (front ++ back)
stored text front back at one two room =
    take_more_put_chunk (2 * at + 16) (put_chunk (2 * at) text front) back (2 * (at + 16)) (omega (arith, two)) (omega (arith, length-put_chunk (2 * at) text front))
    ∙ ap (λ w. w ++ back) (take_more_put_chunk (2 * at) text front (2 * at + 16) (omega (arith, one)) (omega arith))
    ∙ append_assoc (take (2 * at) text) front back

-- the digits of a block, behind what stands before them
pub block_stored : (bytes text high low : List ℕ) (at : ℕ) → at + 16 ≤ length bytes → length text ≡ 2 * length bytes
    → high ≡ map (λ x. digit_at (x / 16)) (take 16 (drop at bytes)) → low ≡ map (λ x. digit_at (x % 16)) (take 16 (drop at bytes))
    → take (2 * (at + 16)) (put_chunk (2 * at + 16) (put_chunk (2 * at) text (woven (high ++ low) 0 8)) (woven (high ++ low) 8 8))
    ≡ take (2 * at) text ++ encode_lower (slice_range bytes at (at + 16))
block_stored bytes text high low at within room highs lows =
    let sixteen : at + 16 - at ≡ 16 = omega arith in
    let size : length (take 16 (drop at bytes)) ≡ 16 = length-chunk at 16 bytes within in
    stored text (woven (high ++ low) 0 8) (woven (high ++ low) 8 8) at refl refl (omega arith)
    ∙ ap (λ w. take (2 * at) text ++ w) (block_digits (take 16 (drop at bytes)) high low size highs lows ∙ ap (λ n. encode_lower (take n (drop at bytes))) (sym sixteen))

take_encode : (xs : List ℕ) (k : ℕ) → take (2 * k) (encode_lower xs) ≡ encode_lower (take k xs)
unfolding encode_with
take_encode xs zero = refl
take_encode [] (suc k) = let two : 2 * suc k ≡ suc (suc (2 * k)) = omega arith in ap (λ n. take n (encode_lower [])) two
take_encode (x ∷ xs) (suc k) =
    let two : 2 * suc k ≡ suc (suc (2 * k)) = omega arith in
    ap (λ n. take n (encode_lower (x ∷ xs))) two ∙ ap (λ w. digit_at (x / 16) ∷ digit_at (x % 16) ∷ w) (take_encode xs k)

-- one block more is written, which begins at the end of what is written or before it
pub block_more : (bytes text new : List ℕ) (at from : ℕ) → from ≤ at → at ≤ length bytes → from + 16 ≤ length bytes → take (2 * at) text ≡ encode_lower (take at bytes)
    → take (2 * (from + 16)) new ≡ take (2 * from) text ++ encode_lower (slice_range bytes from (from + 16)) → take (2 * (from + 16)) new ≡ encode_lower (take (from + 16) bytes)
block_more bytes text new at from before within room written is =
    let sixteen : from + 16 - from ≡ 16 = omega arith in
    let begun : take (2 * from) text ≡ encode_lower (take from bytes) =
    sym (take-take (2 * from) (2 * at) text (omega arith)) ∙ ap (take (2 * from)) written ∙ take_encode (take at bytes) from ∙ ap encode_lower (take-take from at bytes before) in
    is ∙ (λ i. begun i ++ encode_lower (take (sixteen i) (drop from bytes)))
    ∙ sym (encode-append (take from bytes) (take 16 (drop from bytes))) ∙ ap encode_lower (sym (take-add from 16 bytes))

pub all_written : (bytes text : List ℕ) (at : ℕ) → at ≡ length bytes → length text ≡ 2 * length bytes → take (2 * at) text ≡ encode_lower (take at bytes) → text ≡ encode_lower bytes
all_written bytes text at all room written = sym (take_all (2 * at) text (omega arith)) ∙ written ∙ ap encode_lower (take_all at bytes (omega arith))
