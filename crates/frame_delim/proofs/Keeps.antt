-- The last bytes of a list that grows.
use Rattle.std.proofs.Common.{◌≡◌, ℕ, ◌+◌, ◌-◌, ◌<◌, ◌≤◌, ◌⊎◌, inl, inr, List, [], ◌++◌, length, take, drop, min, ap, sym, ◌∙◌, arith, append_assoc, length-append, length-drop, length-take-le, take-append-drop, take_all, drop_of_length-le}
use Rattle.std.proofs.lemmas.Bool.{cases_lt}
use Rattle.std.proofs.lemmas.List.{drop-take}
use Rattle.frame_head.proofs.Lists.{drop_both}
use Rattle.frame_delim.specs.Tails.{last_bytes}

-- two places from which nothing is left, or that are one
past : (a b : ℕ) (s : List ℕ) → ((a < length s) ⊎ (length s ≤ a)) → (a < length s → a ≡ b) → (length s ≤ a → length s ≤ b) → drop a s ≡ drop b s
past a b s (inl within) same gone = ap (λ n. drop n s) (same within)
past a b s (inr over) same gone = drop_of_length-le s over ∙ sym (drop_of_length-le s (gone over))

-- what is kept of the old bytes, and of those behind them
pub kept_last : (t b : List ℕ) (most fresh kept : ℕ) → fresh ≡ min (length b) most → kept ≡ min (length t) (most - fresh) → drop (length t - kept) t ++ drop (length b - fresh) b ≡ last_bytes most (t ++ b)
kept_last t b most fresh kept f k =
    let u : ℕ = length t + length b - most in
    let first : drop (length t - kept) t ≡ drop u t = past (length t - kept) u t (cases_lt (length t - kept) (length t)) (λ within. omega arith) (λ over. omega arith) in
    let second : length b - fresh ≡ u - length t = omega arith in
    let size : length (t ++ b) - most ≡ u = omega (arith, length-append t b) in
    ap (λ w. w ++ drop (length b - fresh) b) first ∙ ap (λ n. drop u t ++ drop n b) second ∙ sym (drop_both u t b) ∙ ap (λ n. drop n (t ++ b)) (sym size)

-- the last bytes of a list are those of its last bytes
pub last_of_last : (n : ℕ) (r s : List ℕ) → last_bytes n (last_bytes n r ++ s) ≡ last_bytes n (r ++ s)
last_of_last n r s =
    let k : ℕ = length r - n in
    let whole : r ++ s ≡ take k r ++ (drop k r ++ s) = ap (λ w. w ++ s) (sym (take-append-drop k r)) ∙ append_assoc (take k r) (drop k r) s in
    let front : length (take k r) ≡ k = length-take-le k r (omega arith) in
    let w = drop k r ++ s in
    let size : length (r ++ s) - n ≡ k + (length w - n) = omega (arith, length-append r s, length-append (drop k r) s, length-drop k r) in
    let more : drop (k + (length w - n)) (take k r ++ w) ≡ drop (k + (length w - n)) (take k r) ++ drop (k + (length w - n) - length (take k r)) w = drop_both (k + (length w - n)) (take k r) w in
    let gone : drop (k + (length w - n)) (take k r) ≡ [] = drop_of_length-le (take k r) (omega (arith, front)) in
    let place : k + (length w - n) - length (take k r) ≡ length w - n = omega (arith, front) in
    sym (ap (λ m. drop m (r ++ s)) size ∙ ap (λ v. drop (k + (length w - n)) v) whole ∙ more ∙ ap (λ v. v ++ drop (k + (length w - n) - length (take k r)) w) gone ∙ ap (λ m. drop m w) place)

-- the same in the room where they are written
pub kept_room : (arr b none first second p q : List ℕ) (len most fresh kept : ℕ) → len ≤ length arr → fresh ≡ min (length b) most → kept ≡ min len (most - fresh)
    → p ≡ take (len - (len - kept)) (drop (len - kept) arr) → q ≡ take (length b - (length b - fresh)) (drop (length b - fresh) b)
    → take (0 + length p) first ≡ take 0 none ++ p → take (kept + length q) second ≡ take kept first ++ q
    → take (kept + fresh) second ≡ last_bytes most (take len arr ++ b)
kept_room arr b none first second p q len most fresh kept room f k pis qis one two =
    let t = take len arr in
    let size : length t ≡ len = length-take-le len arr room in
    let all : len - kept + (len - (len - kept)) ≡ len = omega arith in
    let front : p ≡ drop (len - kept) t = pis ∙ sym (drop-take (len - kept) (len - (len - kept)) arr) ∙ ap (λ n. drop (len - kept) (take n arr)) all in
    let few : length p ≡ kept = omega (arith, ap (λ w. length w) front, length-drop (len - kept) t, size, k) in
    let back : q ≡ drop (length b - fresh) b = qis ∙ take_all (length b - (length b - fresh)) (drop (length b - fresh) b) (omega (arith, length-drop (length b - fresh) b)) in
    let more : length q ≡ fresh = omega (arith, ap (λ w. length w) back, length-drop (length b - fresh) b, f) in
    let start : 0 + length p ≡ kept = omega (arith, few) in
    let there : take kept first ≡ p = ap (λ n. take n first) (sym start) ∙ one in
    let place : len - kept ≡ length t - kept = omega (arith, size) in
    ap (λ n. take (kept + n) second) (sym more) ∙ two ∙ ap (λ w. w ++ q) (there ∙ front ∙ ap (λ n. drop n t) place) ∙ ap (λ w. drop (length t - kept) t ++ w) back
    ∙ kept_last t b most fresh kept f (omega (arith, size, k))
