-- The data of nodes, one after another.
use Rattle.std.proofs.Common.{◌≡◌, ◌≢◌, ℕ, suc, zero, ◌+◌, List, [], ◌∷◌, ◌++◌, Option, Some, length, take, drop, refl, sym, ap, ◌∙◌, append_assoc, arith, slice_get}
use Rattle.std.proofs.Math.Seq.{take-length, drop-append_seam}
use Rattle.std.proofs.lemmas.Option.{none-some}
use Rattle.std.proofs.lemmas.List.{append-nil, drop_all, take-append-drop}
use Rattle.buffer_model.specs.Segment.{Segment, bytes_of}
use Rattle.iobuf_chain.specs.Windows.{windows_of}
use Rattle.iobuf_chain.proofs.Bytes.{bytes_of-append}

module _ {O : Type 0} where
  -- one more node
  pub bytes_more : (i : ℕ) (xs : List (Segment O)) (x : Segment O) → slice_get xs i ≡ Some x → bytes_of (take (i + 1) xs) ≡ bytes_of (take i xs) ++ x.window
  bytes_more i [] x is = absurd (none-some x is)
  bytes_more zero (y ∷ ys) x is =
      let same : y ≡ x = cc in
      ap (λ (n : ℕ). bytes_of (take n (y ∷ ys))) (let one : zero + 1 ≡ suc zero = omega arith in one) ∙ append-nil y.window ∙ ap (λ (s : Segment O). s.window) same
  bytes_more (suc i) (y ∷ ys) x is =
      ap (λ (n : ℕ). bytes_of (take n (y ∷ ys))) (let e : suc i + 1 ≡ suc (i + 1) = omega arith in e)
      ∙ ap (λ bs. y.window ++ bs) (bytes_more i ys x is) ∙ sym (append_assoc y.window (bytes_of (take i ys)) x.window)

  -- all of them
  pub all_nodes : (i : ℕ) (xs : List (Segment O)) → i ≡ length xs → bytes_of (take i xs) ≡ bytes_of xs
  all_nodes i xs all = ap (λ (n : ℕ). bytes_of (take n xs)) all ∙ ap bytes_of (take-length xs)

  -- no slice is left
  pub no_slice : (i : ℕ) (xs : List (Segment O)) (v : List (List ℕ)) → windows_of (drop i xs) ≡ v → i ≡ length xs → v ≡ []
  no_slice i xs v view all = sym view ∙ ap windows_of (drop_all i xs (omega (arith, all)))

  first_window : (i : ℕ) (xs : List (Segment O)) (x : Segment O) → slice_get xs i ≡ Some x → windows_of (drop i xs) ≡ x.window ∷ windows_of (drop (suc i) xs)
  first_window i [] x is = absurd (none-some x is)
  first_window zero (y ∷ ys) x is = let same : y ≡ x = cc in ap (λ (s : Segment O). s.window ∷ windows_of ys) same
  first_window (suc i) (y ∷ ys) x is = first_window i ys x is

  -- the next slice
  pub next_slice : (i : ℕ) (xs : List (Segment O)) (x : Segment O) (v : List (List ℕ)) → windows_of (drop i xs) ≡ v → slice_get xs i ≡ Some x
      → v ≡ x.window ∷ windows_of (drop (i + 1) xs)
  next_slice i xs x v view is =
      sym view ∙ first_window i xs x is ∙ ap (λ (n : ℕ). x.window ∷ windows_of (drop n xs)) (let e : suc i ≡ i + 1 = omega arith in e)

  -- the bytes go on with those of the next node
  pub goes_on : (i : ℕ) (xs : List (Segment O)) (x : Segment O) (w left rest bytes : List ℕ) → slice_get xs i ≡ Some x → w ≡ x.window
      → bytes ≡ bytes_of (take i xs) ++ left → left ≡ w ++ rest → bytes ≡ bytes_of (take (i + 1) xs) ++ rest
  goes_on i xs x w left rest bytes is same all begins =
      all ∙ ap (λ l. bytes_of (take i xs) ++ l) (begins ∙ ap (λ v. v ++ rest) same) ∙ sym (append_assoc (bytes_of (take i xs)) x.window rest)
      ∙ ap (λ l. l ++ rest) (sym (bytes_more i xs x is))

  first_bytes : (i : ℕ) (xs : List (Segment O)) (x : Segment O) → slice_get xs i ≡ Some x → bytes_of (drop i xs) ≡ x.window ++ bytes_of (drop (suc i) xs)
  first_bytes i [] x is = absurd (none-some x is)
  first_bytes zero (y ∷ ys) x is = let same : y ≡ x = cc in ap (λ (s : Segment O). s.window ++ bytes_of ys) same
  first_bytes (suc i) (y ∷ ys) x is = first_bytes i ys x is

  -- they don't where the next node has others
  pub differs : (i : ℕ) (xs : List (Segment O)) (x : Segment O) (w left bytes : List ℕ) → slice_get xs i ≡ Some x → w ≡ x.window
      → bytes ≡ bytes_of (take i xs) ++ left → ((rest : List ℕ) → left ≢ w ++ rest) → bytes_of xs ≢ bytes
  differs i xs x w left bytes is same all other e =
      let front = bytes_of (take i xs) in
      let parts : front ++ bytes_of (drop i xs) ≡ bytes_of xs = sym (bytes_of-append (take i xs) (drop i xs)) ∙ ap bytes_of (take-append-drop i xs) in
      let rest : left ≡ bytes_of (drop i xs) =
      sym (drop-append_seam front left) ∙ ap (λ l. drop (length front) l) (sym all ∙ sym e ∙ sym parts) ∙ drop-append_seam front (bytes_of (drop i xs)) in
      other (bytes_of (drop (suc i) xs)) (rest ∙ first_bytes i xs x is ∙ ap (λ v. v ++ bytes_of (drop (suc i) xs)) (sym same))
