-- Places in the bytes of nodes.
use Rattle.std.proofs.Common.{rules, ◌≡◌, ℕ, suc, zero, ◌+◌, ◌-◌, ◌<◌, ◌≤◌, List, [], ◌∷◌, ◌++◌, Option, Some, None, IfSome, length, take, drop, refl, sym, ap, subst, ◌∙◌, arith, length-append, length-drop, slice_get}
use Rattle.std.proofs.lemmas.Option.{none-some}
use Rattle.std.proofs.lemmas.List.{drop-drop, drop_all, take_all, length-take, take-append-le, length-take-le}
use Rattle.std.proofs.Math.Seq.{take-add}
use Rattle.buffer_model.specs.Segment.{Segment, bytes_of}
use Rattle.iobuf_chain.proofs.TrimmedEnds.{drop-joined}
use Rattle.read_cursor.specs.Reading.{Reading, rest_of, moved, place_in}

pub if_some : {X : Type 0} (P : X → Type 0) (o : Option X) (x : X) → o ≡ Some x → IfSome o P → P x
if_some {X = X} P o x e h = let Q : Option X → Type 0 = λ z. IfSome z P in subst Q e h

module _ {O : Type 0} where
  -- the next node begins where a node ends
  pub place_next : (i k : ℕ) (xs : List (Segment O)) (s : Segment O) → slice_get xs i ≡ Some s → length s.window ≤ k
      → place_in xs (i + 1) (k - length s.window) ≡ place_in xs i k
  place_next i k [] s e past = absurd (none-some s e)
  place_next zero k (y ∷ ys) s e past =
      let same : y ≡ s = cc in
      let l = length-append y.window (bytes_of {O = O} []) in
      let w : length y.window ≡ length s.window = ap (λ z. length z.window) same in
      omega (arith, l, w, past)
  place_next (suc i) k (y ∷ ys) s e past =
      let more = place_next i k ys s e past in
      let a = length-append y.window (bytes_of (take (i + 1) ys)) in
      let b = length-append y.window (bytes_of (take i ys)) in
      let e : length (bytes_of (take (suc i + 1) (y ∷ ys))) ≡ length (y.window ++ bytes_of (take (i + 1) ys)) =
      ap (λ (n : ℕ). length (bytes_of (take n (y ∷ ys)))) (let k : suc i + 1 ≡ suc (i + 1) = omega arith in k) in
      omega (arith, more, a, b, e)

  -- a place before the end lies in no node past the last
  pub place_there : (i k : ℕ) (xs : List (Segment O)) → place_in xs i k < length (bytes_of xs) → i < length xs
  place_there zero k [] less = omega (arith, less)
  place_there (suc i) k [] less = omega (arith, less)
  place_there zero k (x ∷ xs) less = omega arith
  place_there (suc i) k (x ∷ xs) less =
      let a = length-append x.window (bytes_of (take i xs)) in
      let b = length-append x.window (bytes_of xs) in
      let more = place_there i k xs (omega (arith, a, b, less)) in omega (arith, more)

  -- the bytes from a place in a node on
  pub from_here : (i k : ℕ) (xs : List (Segment O)) (s : Segment O) → slice_get xs i ≡ Some s → k ≤ length s.window
      → drop (place_in xs i k) (bytes_of xs) ≡ drop k s.window ++ bytes_of (drop (i + 1) xs)
  from_here i k [] s e within = absurd (none-some s e)
  from_here zero k (y ∷ ys) s e within =
      let same : y ≡ s = cc in
      let w : length y.window ≡ length s.window = ap (λ z. length z.window) same in
      ap (λ (n : ℕ). drop n (bytes_of (y ∷ ys))) (let z : 0 + k ≡ k = omega arith in z)
      ∙ drop-joined k y.window (bytes_of ys)
      ∙ ap (λ (n : ℕ). drop k y.window ++ drop n (bytes_of ys)) (let z : k - length y.window ≡ 0 = omega (arith, w, within) in z)
      ∙ ap (λ z. drop k z.window ++ bytes_of ys) same
  from_here (suc i) k (y ∷ ys) s e within =
      let a = length-append y.window (bytes_of (take i ys)) in
      let at : length (y.window ++ bytes_of (take i ys)) + k ≡ length y.window + place_in ys i k = omega (arith, a) in
      ap (λ (n : ℕ). drop n (y.window ++ bytes_of ys)) at
      ∙ drop-joined (length y.window + place_in ys i k) y.window (bytes_of ys)
      ∙ ap (λ w. w ++ drop (length y.window + place_in ys i k - length y.window) (bytes_of ys)) (drop_all (length y.window + place_in ys i k) y.window (omega arith))
      ∙ ap (λ (n : ℕ). drop n (bytes_of ys)) (let z : length y.window + place_in ys i k - length y.window ≡ place_in ys i k = omega arith in z)
      ∙ from_here i k ys s e within
      ∙ ap (λ (n : ℕ). drop k s.window ++ bytes_of (drop n (y ∷ ys))) (let z : suc (i + 1) ≡ suc i + 1 = omega arith in z)

  -- the node's bytes from a place in it on are the next
  pub ahead_is : (i k place : ℕ) (xs : List (Segment O)) (s : Segment O) (part : List ℕ) → slice_get xs i ≡ Some s → k < length s.window
      → place ≡ place_in xs i k → part ≡ drop k s.window
      → (0 < length part) × (length part ≤ length (drop place (bytes_of xs))) × (part ≡ take (length part) (drop place (bytes_of xs)))
  ahead_is i k place xs s part e within at is =
      let all : drop place (bytes_of xs) ≡ part ++ bytes_of (drop (i + 1) xs) = ap (λ (n : ℕ). drop n (bytes_of xs)) at ∙ from_here i k xs s e (omega (arith, within)) ∙ ap (λ w. w ++ bytes_of (drop (i + 1) xs)) (sym is) in
      let l = ap length all in
      let m = length-append part (bytes_of (drop (i + 1) xs)) in
      let d = length-drop k s.window in
      let n = ap length is in (
        omega (arith, d, n, within),
        omega (arith, l, m),
        sym (ap (take (length part)) all ∙ take-append-le (length part) part (bytes_of (drop (i + 1) xs)) (omega arith) ∙ take_all (length part) part (omega arith)),
      )

pub behind : (done : ℕ) (r s : Reading) → s ≡ moved done r → rest_of s ≡ drop done (rest_of r)
behind done r s at = ap rest_of at ∙ sym (drop-drop done r.place r.bytes)

pub moves_on : (a b : ℕ) (r s t : Reading) → s ≡ moved a r → t ≡ moved b s → t ≡ moved (a + b) r
moves_on a b r s t e f = f ∙ ap (moved b) e ∙ ap (λ (n : ℕ). record { bytes = r.bytes; place = n }) (let k : r.place + a + b ≡ r.place + (a + b) = omega arith in k)

pub left_of : (done : ℕ) (r s : Reading) → s ≡ moved done r → length (rest_of s) ≡ length (rest_of r) - done
left_of done r s at = ap length (behind done r s at) ∙ length-drop done (rest_of r)

pub take_of : (n m : ℕ) (xs : List ℕ) → n ≤ m → take n (take m xs) ≡ take n xs
take_of zero m xs le = refl
take_of (suc n) zero xs le = absurd (omega (arith, le))
take_of (suc n) (suc m) [] le = refl
take_of (suc n) (suc m) (x ∷ xs) le = ap (λ l. x ∷ l) (take_of n m xs (omega (arith, le)))

pub drop_of : (f w : ℕ) (xs : List ℕ) → drop f (take w xs) ≡ take (w - f) (drop f xs)
drop_of zero w xs = ap (λ (n : ℕ). take n xs) (let k : w ≡ w - 0 = omega arith in k)
drop_of (suc f) zero xs = ap (λ (n : ℕ). take n (drop (suc f) xs)) (let k : 0 ≡ 0 - suc f = omega arith in k)
drop_of (suc f) (suc w) [] = sym (take_none (suc w - suc f))
  where
    take_none : (n : ℕ) → take {A = ℕ} n [] ≡ []
    take_none zero = refl
    take_none (suc n) = refl
drop_of (suc f) (suc w) (x ∷ xs) = drop_of f w xs ∙ ap (λ (n : ℕ). take n (drop f xs)) (let k : w - f ≡ suc w - suc f = omega arith in k)

-- the first bytes of a part are the first of all
pub front_of : (few m w : ℕ) (part all : List ℕ) → few ≤ m → few ≤ w → part ≡ take m all → take few part ≡ take few (take w all)
front_of few m w part all a b is = ap (take few) is ∙ take_of few m all a ∙ sym (take_of few w all b)

-- the first n of the next bytes come behind those that are had
pub had_more : (done n m : ℕ) (r s : Reading) (part more had : List ℕ) → s ≡ moved done r → part ≡ take m (rest_of s) → more ≡ take n part → n ≤ m
    → had ≡ take done (rest_of r) → had ++ more ≡ take (done + n) (rest_of r)
had_more done n m r s part more had at is few le was =
    let next : more ≡ take n (drop done (rest_of r)) = few ∙ ap (take n) is ∙ take_of n m (rest_of s) le ∙ ap (take n) (behind done r s at) in
    ap (λ xs. xs ++ more) was ∙ ap (λ xs. take done (rest_of r) ++ xs) next ∙ sym (take-add done n (rest_of r))
