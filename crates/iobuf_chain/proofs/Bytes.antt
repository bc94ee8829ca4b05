-- Bytes of nodes.
use Rattle.std.proofs.Common.{◌≡◌, ℕ, suc, zero, ◌+◌, ◌-◌, ◌<◌, ◌≤◌, List, [], ◌∷◌, ◌++◌, Option, Some, None, length, take, drop, refl, sym, ap, ◌∙◌, append_assoc, arith, add-one, length-append, slice_get, slice_set}
use Rattle.std.proofs.lemmas.Option.{none-some}
use Rattle.std.proofs.lemmas.List.{take-append-drop, drop-drop}
use Rattle.buffer_model.specs.Segment.{Segment, bytes_of}
use Rattle.iobuf_chain.specs.Lists.{between, without, rotated, inserted_after}

module _ {O : Type 0} where
  pub bytes_of-append : (xs ys : List (Segment O)) → bytes_of (xs ++ ys) ≡ bytes_of xs ++ bytes_of ys
  bytes_of-append [] ys = refl
  bytes_of-append (x ∷ xs) ys = ap (λ bs. x.window ++ bs) (bytes_of-append xs ys) ∙ sym (append_assoc x.window (bytes_of xs) (bytes_of ys))

  pub sum-append : (xs ys : List (Segment O)) → length (bytes_of (xs ++ ys)) ≡ length (bytes_of xs) + length (bytes_of ys)
  sum-append xs ys = ap length (bytes_of-append xs ys) ∙ length-append (bytes_of xs) (bytes_of ys)

  -- one more node
  pub sum_more : (i : ℕ) (xs : List (Segment O)) (x : Segment O) → slice_get xs i ≡ Some x
      → length (bytes_of (take (i + 1) xs)) ≡ length (bytes_of (take i xs)) + length x.window
  sum_more i [] x is = absurd (none-some x is)
  sum_more zero (y ∷ ys) x is =
      let same : y ≡ x = cc in
      let l = length-append y.window [] in
      let e = ap (λ w. length w.window) same in
      ap (λ (n : ℕ). length (bytes_of (take n (y ∷ ys)))) (let one : zero + 1 ≡ suc zero = omega arith in one) ∙ omega (arith, l, e)
  sum_more (suc i) (y ∷ ys) x is =
      let more = sum_more i ys x is in
      let l = length-append y.window (bytes_of (take (i + 1) ys)) in
      let k = length-append y.window (bytes_of (take i ys)) in
      ap (λ (n : ℕ). length (bytes_of (take n (y ∷ ys)))) (let e : suc i + 1 ≡ suc (i + 1) = omega arith in e) ∙ omega (arith, more, l, k)

  -- the first nodes have no more bytes than all
  pub sum_within : (i : ℕ) (xs : List (Segment O)) → length (bytes_of (take i xs)) ≤ length (bytes_of xs)
  sum_within i xs =
      let parts = sum-append (take i xs) (drop i xs) in
      let same = ap (λ ys. length (bytes_of ys)) (take-append-drop i xs) in
      omega (arith, parts, same)

  -- a node has no more bytes than all
  pub window_within : (i : ℕ) (xs : List (Segment O)) (x : Segment O) → slice_get xs i ≡ Some x → length x.window ≤ length (bytes_of xs)
  window_within i xs x is =
      let more = sum_more i xs x is in
      let within = sum_within (i + 1) xs in
      omega (arith, more, within)

  -- a node in the place of another
  pub sum-set : (i : ℕ) (xs : List (Segment O)) (x y : Segment O) → slice_get xs i ≡ Some x
      → length (bytes_of (slice_set xs i y)) + length x.window ≡ length (bytes_of xs) + length y.window
  sum-set i [] x y is = absurd (none-some x is)
  sum-set zero (z ∷ zs) x y is =
      let same : z ≡ x = cc in
      let l = length-append y.window (bytes_of zs) in
      let k = length-append z.window (bytes_of zs) in
      let e = ap (λ w. length w.window) same in
      omega (arith, l, k, e)
  sum-set (suc i) (z ∷ zs) x y is =
      let more = sum-set i zs x y is in
      let l = length-append z.window (bytes_of (slice_set zs i y)) in
      let k = length-append z.window (bytes_of zs) in
      omega (arith, more, l, k)

  pub sum-rotated : (i : ℕ) (xs : List (Segment O)) → length (bytes_of (rotated i xs)) ≡ length (bytes_of xs)
  sum-rotated i xs =
      let a = sum-append (drop i xs) (take i xs) in
      let b = sum-append (take i xs) (drop i xs) in
      let e = ap (λ ys. length (bytes_of ys)) (take-append-drop i xs) in
      omega (arith, a, b, e)

  pub sum-inserted : (i : ℕ) (ys xs : List (Segment O)) → length (bytes_of (inserted_after i ys xs)) ≡ length (bytes_of xs) + length (bytes_of ys)
  sum-inserted i ys xs =
      let a = sum-append (take (i + 1) xs) (ys ++ drop (i + 1) xs) in
      let b = sum-append ys (drop (i + 1) xs) in
      let d = sum-append (take (i + 1) xs) (drop (i + 1) xs) in
      let e = ap (λ zs. length (bytes_of zs)) (take-append-drop (i + 1) xs) in
      omega (arith, a, b, d, e)

  -- what stands from place i on begins with the nodes up to place j
  pub split_at : (i j : ℕ) (xs : List (Segment O)) → i ≤ j → drop i xs ≡ between i j xs ++ drop j xs
  split_at i j xs h =
      let at : i + (j - i) ≡ j = omega arith in
      sym (take-append-drop (j - i) (drop i xs)) ∙ ap (λ ys. between i j xs ++ ys) (drop-drop (j - i) i xs ∙ ap (λ (n : ℕ). drop n xs) at)

  pub parts_of : (i j : ℕ) (xs : List (Segment O)) → i ≤ j → xs ≡ take i xs ++ (between i j xs ++ drop j xs)
  parts_of i j xs h = sym (take-append-drop i xs) ∙ ap (λ ys. take i xs ++ ys) (split_at i j xs h)

  pub sum-parts : (i j : ℕ) (xs : List (Segment O)) → i ≤ j
      → length (bytes_of (between i j xs)) + length (bytes_of (without i j xs)) ≡ length (bytes_of xs)
  sum-parts i j xs h =
      let a = sum-append (take i xs) (between i j xs ++ drop j xs) in
      let b = sum-append (between i j xs) (drop j xs) in
      let d = sum-append (take i xs) (drop j xs) in
      let e = ap (λ ys. length (bytes_of ys)) (parts_of i j xs h) in
      omega (arith, a, b, d, e)

  pub sum-cut : (i : ℕ) (xs : List (Segment O)) → length (bytes_of (take i xs)) + length (bytes_of (drop i xs)) ≡ length (bytes_of xs)
  sum-cut i xs = sym (sum-append (take i xs) (drop i xs)) ∙ ap (λ ys. length (bytes_of ys)) (take-append-drop i xs)
