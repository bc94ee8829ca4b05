-- A frame in parts: what they are together, and the first of them.
use Rattle.std.proofs.Common.{◌≡◌, ℕ, zero, suc, ◌+◌, ◌-◌, ◌≤◌, ◌<◌, min, List, [], ◌∷◌, ◌++◌, Some, length, take, drop, get_or, slice_get, refl, ap, sym, ◌∙◌, arith, length-take, length-drop, length-append}
use Rattle.std.specs.List.{All, concat}
use Rattle.std.proofs.lemmas.List.{append-nil, take_min}
use Rattle.std.proofs.lemmas.List.Folds.{concat-append}
use Rattle.std.proofs.lemmas.List.Elements.{All-append, All-nil}
use Rattle.std.proofs.lemmas.Option.{none-some}
use Rattle.storage.specs.declared.release.NoOwner.{NoOwner}
use Rattle.buffer_model.specs.Segment.{Segment, bytes_of}
use Rattle.frame_batch.specs.Parts.{one_part, parts_in}

take_joined : (n : ℕ) (xs ys : List ℕ) → take n (xs ++ ys) ≡ take n xs ++ take (n - length xs) ys
take_joined zero [] ys = refl
take_joined zero (x ∷ xs) ys = ap (λ (k : ℕ). take k ys) (let e : zero ≡ zero - suc (length xs) = omega arith in e)
take_joined (suc n) [] ys = ap (λ (k : ℕ). take k ys) (let e : suc n ≡ suc n - zero = omega arith in e)
take_joined (suc n) (x ∷ xs) ys =
    ap (λ us. x ∷ us) (take_joined n xs ys)
    ∙ ap (λ (k : ℕ). x ∷ (take n xs ++ take k ys)) (let e : n - length xs ≡ suc n - suc (length xs) = omega arith in e)

drop_joined : (n : ℕ) (xs ys : List ℕ) → drop n (xs ++ ys) ≡ drop n xs ++ drop (n - length xs) ys
drop_joined zero [] ys = refl
drop_joined zero (x ∷ xs) ys = ap (λ (k : ℕ). (x ∷ xs) ++ drop k ys) (let e : zero ≡ zero - suc (length xs) = omega arith in e)
drop_joined (suc n) [] ys = ap (λ (k : ℕ). drop k ys) (let e : suc n ≡ suc n - zero = omega arith in e)
drop_joined (suc n) (x ∷ xs) ys =
    drop_joined n xs ys ∙ ap (λ (k : ℕ). drop n xs ++ drop k ys) (let e : n - length xs ≡ suc n - suc (length xs) = omega arith in e)

none_taken : (n m : ℕ) → take n (drop m (let none : List ℕ = [] in none)) ≡ []
none_taken zero m = refl
none_taken (suc n) zero = refl
none_taken (suc n) (suc m) = refl

one_part-concat : (xs : List ℕ) → concat (one_part xs) ≡ xs
one_part-concat [] = refl
one_part-concat (x ∷ xs) = append-nil (x ∷ xs)

one_part-some : (xs : List ℕ) → 0 < length xs → one_part xs ≡ xs ∷ []
one_part-some [] lt = absurd (omega (arith, lt))
one_part-some (x ∷ xs) lt = refl

one_part-none : (xs : List ℕ) → length xs ≡ 0 → one_part xs ≡ []
one_part-none [] is = refl
one_part-none (x ∷ xs) is = absurd (omega (arith, is))

one_part-all : (xs : List ℕ) (k : ℕ) (d : List ℕ) → k < length (one_part xs) → 0 < length (get_or (one_part xs) k d)
one_part-all [] k d lt = absurd (omega (arith, lt))
one_part-all (x ∷ xs) zero d lt = omega arith
one_part-all (x ∷ xs) (suc k) d lt = absurd (omega (arith, lt))

-- parts that are joined
pub parts_joined : (place size : ℕ) (ss : List (Segment NoOwner)) → concat (parts_in place size ss) ≡ take size (drop place (bytes_of ss))
parts_joined place size [] = sym (none_taken size place)
parts_joined place size (s ∷ ss) =
    let here = take size (drop place s.window) in
    let rest = parts_in (place - length s.window) (size - (length s.window - place)) ss in
    let more = parts_joined (place - length s.window) (size - (length s.window - place)) ss in
    let behind = drop (place - length s.window) (bytes_of ss) in
    concat-append (one_part here) rest
    ∙ ap (λ us. us ++ concat rest) (one_part-concat here)
    ∙ ap (λ us. here ++ us) more
    ∙ ap (λ (n : ℕ). here ++ take (size - n) behind) (sym (length-drop place s.window))
    ∙ sym (take_joined size (drop place s.window) behind)
    ∙ ap (λ us. take size us) (sym (drop_joined place s.window (bytes_of ss)))

-- each has a byte
pub parts_some : (place size : ℕ) (ss : List (Segment NoOwner)) → All (λ part. 0 < length part) (parts_in place size ss)
parts_some place size [] = All-nil (λ part. 0 < length part)
parts_some place size (s ∷ ss) =
    All-append (λ part. 0 < length part) (one_part (take size (drop place s.window))) (parts_in (place - length s.window) (size - (length s.window - place)) ss)
    (one_part-all (take size (drop place s.window))) (parts_some (place - length s.window) (size - (length s.window - place)) ss)

-- no bytes have no part
pub no_parts : (place : ℕ) (ss : List (Segment NoOwner)) → parts_in place 0 ss ≡ []
no_parts place [] = refl
no_parts place (s ∷ ss) =
    let none : 0 - (length s.window - place) ≡ 0 = omega arith in
    ap (λ (n : ℕ). parts_in (place - length s.window) n ss) none ∙ no_parts (place - length s.window) ss

some_bytes : (xss : List (List ℕ)) → 0 < length (concat xss) → 0 < length xss
some_bytes [] lt = absurd (omega (arith, lt))
some_bytes (xs ∷ xss) lt = omega arith

parts_size : (place size : ℕ) (ss : List (Segment NoOwner)) → place + size ≤ length (bytes_of ss) → length (concat (parts_in place size ss)) ≡ size
parts_size place size ss within =
    let joined = ap length (parts_joined place size ss) in
    let t = length-take size (drop place (bytes_of ss)) in
    let d = length-drop place (bytes_of ss) in
    omega (arith, joined, t, d, within)

pub all_bytes : (place size : ℕ) (ss : List (Segment NoOwner)) (v : List (List ℕ)) → parts_in place size ss ≡ v → place + size ≤ length (bytes_of ss) → size ≡ length (concat v)
all_bytes place size ss v is within = sym (parts_size place size ss within) ∙ ap (λ us. length (concat us)) is

-- the first node has the first byte
first_here : (t : Segment NoOwner) (ts : List (Segment NoOwner)) (place size m : ℕ) → place < length t.window → 0 < size → m ≡ min size (length t.window - place)
    → parts_in place size (t ∷ ts) ≡ take m (drop place t.window) ∷ parts_in (place + m) (size - m) (t ∷ ts)
first_here t ts place size m there some is =
    let bytes = drop place t.window in
    let d = length-drop place t.window in
    let k = length-take m bytes in
    let taken : take size bytes ≡ take m bytes = sym (take_min size bytes) ∙ ap (λ (n : ℕ). take n bytes) (let e : min size (length bytes) ≡ m = omega (arith, d, is) in e) in
    let here : one_part (take size bytes) ≡ take m bytes ∷ [] = ap (λ us. one_part us) taken ∙ one_part-some (take m bytes) (omega (arith, d, k, is, there, some)) in
    let e = length-drop (place + m) t.window in
    let n = length-take (size - m) (drop (place + m) t.window) in
    let gone : one_part (take (size - m) (drop (place + m) t.window)) ≡ [] = one_part-none (take (size - m) (drop (place + m) t.window)) (omega (arith, e, n, is, there)) in
    let a : place - length t.window ≡ (place + m) - length t.window = omega (arith, is, there) in
    let b : size - (length t.window - place) ≡ (size - m) - (length t.window - (place + m)) = omega (arith, is, there) in
    let rest : parts_in (place - length t.window) (size - (length t.window - place)) ts ≡ parts_in ((place + m) - length t.window) ((size - m) - (length t.window - (place + m))) ts =
    ap (λ (n : ℕ). parts_in n (size - (length t.window - place)) ts) a ∙ ap (λ (n : ℕ). parts_in ((place + m) - length t.window) n ts) b in
    ap (λ us. us ++ parts_in (place - length t.window) (size - (length t.window - place)) ts) here
    ∙ ap (λ us. take m bytes ∷ us) rest
    ∙ ap (λ us. take m bytes ∷ (us ++ parts_in ((place + m) - length t.window) ((size - m) - (length t.window - (place + m))) ts)) (sym gone)

-- a node that ends before the place
passed : (t : Segment NoOwner) (ts : List (Segment NoOwner)) (place size : ℕ) → length t.window ≤ place → parts_in place size (t ∷ ts) ≡ parts_in (place - length t.window) size ts
passed t ts place size before =
    let d = length-drop place t.window in
    let k = length-take size (drop place t.window) in
    let none : one_part (take size (drop place t.window)) ≡ [] = one_part-none (take size (drop place t.window)) (omega (arith, d, k, before)) in
    let all : size - (length t.window - place) ≡ size = omega (arith, before) in
    ap (λ us. us ++ parts_in (place - length t.window) (size - (length t.window - place)) ts) none
    ∙ ap (λ (n : ℕ). parts_in (place - length t.window) n ts) all

-- node i has the first byte: its part comes first
pub first_part : (i : ℕ) (ss : List (Segment NoOwner)) (s : Segment NoOwner) (first place size m : ℕ) → slice_get ss i ≡ Some s → first ≡ length (bytes_of (take i ss))
    → first ≤ place → place < first + length s.window → 0 < size → m ≡ min size (length s.window - (place - first))
    → parts_in place size ss ≡ take m (drop (place - first) s.window) ∷ parts_in (place + m) (size - m) ss
first_part i [] s first place size m is at low there some m_is = absurd (none-some s is)
first_part zero (t ∷ ts) s first place size m is at low there some m_is =
    let same : t ≡ s = cc in
    let l = ap (λ (x : Segment NoOwner). length x.window) same in
    let begins : place - first ≡ place = omega (arith, at) in
    first_here t ts place size m (omega (arith, at, l, there)) some (omega (arith, at, l, m_is))
    ∙ ap (λ us. take m (drop place us) ∷ parts_in (place + m) (size - m) (t ∷ ts)) (ap (λ (x : Segment NoOwner). x.window) same)
    ∙ ap (λ (n : ℕ). take m (drop n s.window) ∷ parts_in (place + m) (size - m) (t ∷ ts)) (sym begins)
first_part (suc i) (t ∷ ts) s first place size m is at low there some m_is =
    let before = length (bytes_of (take i ts)) in
    let l = length-append t.window (bytes_of (take i ts)) in
    let more = first_part i ts s before (place - length t.window) size m is refl (omega (arith, at, l, low)) (omega (arith, at, l, low, there)) some (omega (arith, at, l, low, m_is)) in
    let a : (place - length t.window) - before ≡ place - first = omega (arith, at, l, low) in
    let b : (place - length t.window) + m ≡ (place + m) - length t.window = omega (arith, at, l, low) in
    passed t ts place size (omega (arith, at, l, low))
    ∙ more
    ∙ ap (λ (n : ℕ). take m (drop n s.window) ∷ parts_in ((place - length t.window) + m) (size - m) ts) a
    ∙ ap (λ (n : ℕ). take m (drop (place - first) s.window) ∷ parts_in n (size - m) ts) b
    ∙ ap (λ us. take m (drop (place - first) s.window) ∷ us) (sym (passed t ts (place + m) (size - m) (omega (arith, at, l, low))))

-- some bytes have a part
pub some_parts : (place size : ℕ) (ss : List (Segment NoOwner)) → place + size ≤ length (bytes_of ss) → 0 < size → 0 < length (parts_in place size ss)
some_parts place size ss within some =
    let l = parts_size place size ss within in
    some_bytes (parts_in place size ss) (omega (arith, l, some))
