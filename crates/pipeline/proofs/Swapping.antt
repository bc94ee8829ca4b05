-- Nodes that are taken out of a frame, changed, and put back.
use Rattle.std.proofs.Common.{◌≡◌, ℕ, suc, zero, ◌+◌, ◌-◌, ◌<◌, ◌≤◌, List, [], ◌∷◌, ◌++◌, Some, length, take, drop, refl, sym, ap, ◌∙◌, arith, length-append, length-drop, slice_get, slice_set}
use Rattle.std.specs.List.{AllZip}
use Rattle.std.proofs.lemmas.Option.{none-some}
use Rattle.std.proofs.lemmas.List.{append-nil, length-take}
use Rattle.std.proofs.Common.{subst}
use Rattle.storage.specs.declared.back.Back.{Back}
use Rattle.storage.specs.Back.{stakes_in, stakes_of}
use Rattle.buffer_model.specs.Segment.{Segment, bytes_of, trimmed_start, trimmed_end}
use Rattle.buffer_model.specs.Stake.{Stake, KeepsTotals, held}
use Rattle.iobuf_chain.specs.Accounts.{held_by}
use Rattle.iobuf_chain.specs.Lists.{rotated}
use Rattle.iobuf_chain.proofs.Lists.{set-set}
use Rattle.iobuf_chain.proofs.Bytes.{sum-set}
use Rattle.pipeline.specs.Nodes.{LeavesFirst, TurnsFirst}

module _ {O : Type 0} where
  no_rest : (xs : List (Segment O)) → length xs ≤ 0 → xs ≡ []
  no_rest [] h = refl
  no_rest (x ∷ xs) h = absurd (omega arith)

  -- how many bytes there are with another node in some place
  pub set_at_most : (i : ℕ) (xs : List (Segment O)) (w : Segment O) → length (bytes_of (slice_set xs i w)) ≤ length (bytes_of xs) + length w.window
  set_at_most i [] w = omega arith
  set_at_most zero (x ∷ xs) w =
      let a = length-append w.window (bytes_of xs) in
      let b = length-append x.window (bytes_of xs) in
      omega (arith, a, b)
  set_at_most (suc i) (x ∷ xs) w =
      let more = set_at_most i xs w in
      let a = length-append x.window (bytes_of (slice_set xs i w)) in
      let b = length-append x.window (bytes_of xs) in
      omega (arith, more, a, b)

  pub put_back : (i : ℕ) (xs mid new : List (Segment O)) (w y : Segment O) → mid ≡ slice_set xs i w → new ≡ slice_set mid i y → new ≡ slice_set xs i y
  put_back i xs mid new w y away back = back ∙ ap (λ us. slice_set us i y) away ∙ set-set i w y xs

  -- and with the node back, which has no more bytes than it had
  pub back_at_most : (i : ℕ) (xs mid : List (Segment O)) (w x y : Segment O) → slice_get xs i ≡ Some x → mid ≡ slice_set xs i w
      → length y.window ≤ length x.window → length (bytes_of (slice_set mid i y)) ≤ length (bytes_of xs)
  back_at_most i xs mid w x y there away le =
      let sum = sum-set i xs x y there in
      let same = ap (λ us. length (bytes_of us)) (put_back i xs mid (slice_set mid i y) w y away refl) in
      omega (arith, sum, same, le)

  -- the first node is trimmed and turned
  turned_first : (f : Segment O → Segment O) (xs new : List (Segment O)) (x y : Segment O) → slice_get xs 0 ≡ Some x → new ≡ slice_set xs 0 y → y ≡ f x
      → (rest : List (Segment O)) × (xs ≡ x ∷ rest) × (new ≡ f x ∷ rest)
  turned_first f [] new x y there is turned = absurd (none-some x there)
  turned_first f (z ∷ zs) new x y there is turned =
      let same : z ≡ x = cc in
      (zs, ap (λ u. u ∷ zs) same, is ∙ ap (λ u. u ∷ zs) turned)

  pub turns_many : (front back : ℕ) (xs mid new after : List (Segment O)) (x w y : Segment O) → slice_get xs 0 ≡ Some x → mid ≡ slice_set xs 0 w
      → new ≡ slice_set mid 0 y → y ≡ trimmed_end back (trimmed_start front x) → after ≡ rotated 1 new → TurnsFirst front back xs after
  turns_many front back xs mid new after x w y there away is trimmed turn =
      let first = turned_first (λ s. trimmed_end back (trimmed_start front s)) xs new x y there (put_back 0 xs mid new w y away is) trimmed in
      record {
        node = x;
        rest = first.0;
        before_is = first.1;
        after_is = turn ∙ ap (λ us. rotated 1 us) first.2;
      }

  pub turns_one : (front back : ℕ) (xs mid new : List (Segment O)) (x w y : Segment O) → slice_get xs 0 ≡ Some x → mid ≡ slice_set xs 0 w
      → new ≡ slice_set mid 0 y → y ≡ trimmed_end back (trimmed_start front x) → length xs ≤ 1 → TurnsFirst front back xs new
  turns_one front back xs mid new x w y there away is trimmed one =
      let first = turned_first (λ s. trimmed_end back (trimmed_start front s)) xs new x y there (put_back 0 xs mid new w y away is) trimmed in
      let t : Segment O = trimmed_end back (trimmed_start front x) in
      let none : first.0 ≡ [] = no_rest first.0 (let e = ap length first.1 in omega (arith, e, one)) in
      record {
        node = x;
        rest = first.0;
        before_is = first.1;
        after_is = first.2 ∙ ap (λ us. t ∷ us) none ∙ ap (λ us. us ++ t ∷ []) (sym none);
      }

  -- the first node leaves
  one_back : (R : Segment O → Back O → Type 0) (x : Segment O) (b : Back O) (left : List (Back O)) → AllZip R (x ∷ []) (b ∷ left) → left ≡ []
  one_back R x b [] all = refl
  one_back R x b (c ∷ cs) all = absurd all.1

  pub leaves_first : (R : Segment O → Back O → Type 0) (xs new node : List (Segment O)) (backs left : List (Back O)) (b : Back O) → 1 < length xs
      → node ≡ take 1 xs → new ≡ drop 1 xs → AllZip R node backs → KeepsTotals (held_by node) (stakes_in backs) → backs ≡ b ∷ left
      → LeavesFirst xs new b
  leaves_first R [] new node backs left b some taken rest all keeps first = absurd (omega arith)
  leaves_first R (x ∷ xs) new node backs left b some taken rest all keeps first =
      let P : List (Segment O) → Type 0 = λ us. AllZip R us backs in
      let Q : List (Back O) → Type 0 = λ bs. AllZip R (x ∷ []) bs in
      let none : left ≡ [] = one_back R x b left (subst Q first (subst P taken all)) in
      let one : stakes_in backs ≡ stakes_of b = ap (λ bs. stakes_in bs) (first ∙ ap (λ bs. b ∷ bs) none) ∙ append-nil (stakes_of b) in
      let K : List (Segment O) → Type 0 = λ us. KeepsTotals (held_by us) (stakes_in backs) in
      let L : List (Stake O) → Type 0 = λ ss. KeepsTotals (held x.share ∷ []) ss in
      record {
        node = x;
        before_is = ap (λ us. x ∷ us) (sym rest);
        totals = subst L one (subst K taken keeps);
      }

  -- a node that is trimmed has no more bytes than it had
  pub trimmed_shorter : (front back : ℕ) (x y : Segment O) → y ≡ trimmed_end back (trimmed_start front x) → length y.window ≤ length x.window
  trimmed_shorter front back x y is =
      let size = ap (λ (u : Segment O). length u.window) is ∙ length-take (length (drop front x.window) - back) (drop front x.window) in
      let short = length-drop front x.window in
      omega (arith, size, short)
