-- Numbers as bytes.
use Rattle.std.proofs.Common.{◌≡◌, ℕ, suc, zero, ◌-◌, ◌*◌, ◌/◌, ◌%◌, ◌^◌, ◌≤◌, List, [], ◌∷◌, ◌++◌, take, drop, reverse, refl, ap, sym, ◌∙◌, arith}
use Rattle.std.proofs.Math.Nat.{pow-suc, div-div-eq-div-mul}
use Rattle.std.proofs.lemmas.List.{reverse-append}
use Rattle.std.specs.Int.{bytes_low_first, bytes_high_first, byte_at}
use Rattle.frame_head.specs.Framed.{low_bytes}

pub byte_is : (i n : ℕ) → byte_at i n ≡ n / 256 ^ i % 256
byte_is zero n = ap (λ (m : ℕ). m % 256) (let e : n ≡ n / 256 ^ 0 = omega arith in e)
byte_is (suc i) n = refl

later : (i n : ℕ) → n / 256 ^ i / 256 ≡ n / 256 ^ suc i
later i n = div-div-eq-div-mul n (256 ^ i) 256 ∙ ap (λ (m : ℕ). n / m) (sym (pow-suc 256 i))

shifted : (i n : ℕ) → n / 256 / 256 ^ i ≡ n / 256 ^ suc i
shifted i n =
    let p = pow-suc 256 i in
    let e : 256 * 256 ^ i ≡ 256 ^ suc i = omega (arith, p) in
    div-div-eq-div-mul n 256 (256 ^ i) ∙ ap (λ (m : ℕ). n / m) e

low_from : (k i n : ℕ) → bytes_low_first i k n ≡ low_bytes k (n / 256 ^ i)
low_from zero i n = refl
low_from (suc k) i n =
    ap (λ (b : ℕ). b ∷ bytes_low_first (suc i) k n) (byte_is i n)
    ∙ ap (λ bs. n / 256 ^ i % 256 ∷ bs) (low_from k (suc i) n ∙ ap (λ (m : ℕ). low_bytes k m) (sym (later i n)))

take_low : (k j n : ℕ) → k ≤ j → take k (low_bytes j n) ≡ low_bytes k n
take_low zero j n h = refl
take_low (suc k) zero n h = absurd (omega arith)
take_low (suc k) (suc j) n h = ap (λ bs. n % 256 ∷ bs) (take_low k j (n / 256) (omega arith))

low_more : (k n : ℕ) → low_bytes (suc k) n ≡ low_bytes k n ++ byte_at k n ∷ []
low_more zero n = refl
low_more (suc k) n =
    ap (λ bs. n % 256 ∷ bs) (low_more k (n / 256))
    ∙ ap (λ (b : ℕ). n % 256 ∷ (low_bytes k (n / 256) ++ b ∷ [])) (byte_is k (n / 256) ∙ ap (λ (m : ℕ). m % 256) (shifted k n))

high_is : (k n : ℕ) → bytes_high_first k n ≡ reverse (low_bytes k n)
high_is zero n = refl
high_is (suc k) n =
    ap (λ bs. byte_at k n ∷ bs) (high_is k n) ∙ sym (reverse-append (low_bytes k n) (byte_at k n ∷ [])) ∙ ap reverse (sym (low_more k n))

drop_high : (d j n : ℕ) → d ≤ j → drop d (bytes_high_first j n) ≡ bytes_high_first (j - d) n
drop_high zero j n h = ap (λ (m : ℕ). bytes_high_first m n) (let e : j ≡ j - 0 = omega arith in e)
drop_high (suc d) zero n h = absurd (omega arith)
drop_high (suc d) (suc j) n h = drop_high d j n (omega arith) ∙ ap (λ (m : ℕ). bytes_high_first m n) (let e : j - d ≡ suc j - suc d = omega arith in e)

pub low_part : (all : List ℕ) (size value : ℕ) → size ≤ 16 → all ≡ bytes_low_first 0 16 value → take size all ≡ low_bytes size value
low_part all size value h is =
    ap (take size) (is ∙ low_from 16 0 value ∙ ap (λ (m : ℕ). low_bytes 16 m) (let e : value / 256 ^ 0 ≡ value = omega arith in e)) ∙ take_low size 16 value h

pub high_part : (all : List ℕ) (size value : ℕ) → size ≤ 16 → all ≡ bytes_high_first 16 value → drop (16 - size) all ≡ reverse (low_bytes size value)
high_part all size value h is =
    ap (drop (16 - size)) is ∙ drop_high (16 - size) 16 value (omega arith)
    ∙ ap (λ (m : ℕ). bytes_high_first m value) (let e : 16 - (16 - size) ≡ size = omega (arith, h) in e) ∙ high_is size value
