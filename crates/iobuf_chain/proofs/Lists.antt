-- Lists that are turned and taken apart.
use Rattle.std.proofs.Common.{◌≡◌, ℕ, suc, zero, ◌+◌, ◌-◌, ◌<◌, ◌≤◌, List, [], ◌∷◌, ◌++◌, length, take, drop, refl, sym, ap, ◌∙◌, append_assoc, arith, add-one, length-append, length-drop, length-take-le, slice_set, slice_get, Some, subst}
use Rattle.std.proofs.lemmas.List.{take-append-drop, drop-append-le, take-append-le, drop-drop, drop_at, take_at, take_all}
use Rattle.std.proofs.lemmas.Option.{none-some}
use Rattle.std.proofs.Math.Seq.{take-add}
use Rattle.std.specs.List.Sorted.{IsPermutation}
use Rattle.std.proofs.lemmas.List.Sorted.{IsPermutation-append_comm}
use Rattle.iobuf_chain.specs.Lists.{between, without, rotated, inserted_after, TurnsAt, Each}

module _ {X : Type 0} where
  -- one more turn
  pub rotated_more : (k : ℕ) (xs : List X) → k < length xs → rotated 1 (rotated k xs) ≡ rotated (k + 1) xs
  rotated_more k xs h =
      let some : 1 ≤ length (drop k xs) = simp length-drop (omega arith) in
      ap (λ ys. ys ++ take 1 (drop k xs ++ take k xs)) (drop-append-le 1 (drop k xs) (take k xs) some)
      ∙ ap (λ ys. (drop 1 (drop k xs) ++ take k xs) ++ ys) (take-append-le 1 (drop k xs) (take k xs) some)
      ∙ append_assoc (drop 1 (drop k xs)) (take k xs) (take 1 (drop k xs))
      ∙ ap (λ ys. ys ++ (take k xs ++ take 1 (drop k xs))) (drop-drop 1 k xs)
      ∙ ap (λ ys. drop (k + 1) xs ++ ys) (sym (take-add k 1 xs))

  -- what is put behind a list that was turned, and turned back, stands in its midst
  pub inserted : (i n : ℕ) (f : X) (rest turned grown back others : List X)
      → i ≤ length rest → n + i ≡ length rest → turned ≡ drop i rest ++ take i rest → grown ≡ turned ++ others
      → back ≡ drop n grown ++ take n grown → f ∷ back ≡ inserted_after i others (f ∷ rest)
  inserted i n f rest turned grown back others h e is more round =
      let len : length (drop i rest) ≡ n = simp length-drop (omega arith) in
      let whole : grown ≡ drop i rest ++ (take i rest ++ others) = more ∙ ap (λ ys. ys ++ others) is ∙ append_assoc (drop i rest) (take i rest) others in
      let at : drop n grown ≡ take i rest ++ others = ap (drop n) whole ∙ drop_at (drop i rest) (take i rest ++ others) n len in
      let to : take n grown ≡ drop i rest = ap (take n) whole ∙ take_at (drop i rest) (take i rest ++ others) n len in
      rw add-one (ap (λ ys. f ∷ ys) (round ∙ ap (λ ys. ys ++ take n grown) at ∙ ap (λ ys. (take i rest ++ others) ++ ys) to ∙ append_assoc (take i rest) others (drop i rest)))

  -- items from place k on are the first of a list that was turned by k
  turned_front : (k more : ℕ) (x : X) (rest turned past : List X) → k + more < length rest → turned ≡ drop k rest ++ take k rest
      → turned ≡ x ∷ past → (x ∷ take more past ≡ take (suc more) (drop k rest)) × (drop more past ≡ drop (suc more) (drop k rest) ++ take k rest)
  turned_front k more x rest turned past h is front =
      let some : suc more ≤ length (drop k rest) = simp length-drop (omega arith) in
      let same : x ∷ past ≡ drop k rest ++ take k rest = sym front ∙ is in (
        ap (take (suc more)) same ∙ take-append-le (suc more) (drop k rest) (take k rest) some,
        ap (drop (suc more)) same ∙ drop-append-le (suc more) (drop k rest) (take k rest) some,
      )

  pub taken_first : (i j more : ℕ) (f : X) (rest xs : List X) → i ≡ 0 → j ≡ more + 1 → f ∷ rest ≡ xs → f ∷ take more rest ≡ between i j xs
  taken_first i j more f rest xs none e is =
      let size : j - i ≡ suc more = omega arith in
      ap (take (suc more)) is ∙ ap (λ (n : ℕ). take n xs) (sym size) ∙ ap (λ (n : ℕ). take (j - i) (drop n xs)) (sym none)

  pub left_first : (i j more : ℕ) (f : X) (rest xs : List X) → i ≡ 0 → j ≡ more + 1 → f ∷ rest ≡ xs → drop more rest ≡ without i j xs
  left_first i j more f rest xs none e is =
      let size : j ≡ suc more = omega arith in
      ap (drop (suc more)) is ∙ ap (λ (n : ℕ). drop n xs) (sym size) ∙ ap (λ (n : ℕ). take n xs ++ drop j xs) (sym none)

  pub taken_later : (i j k more : ℕ) (f x : X) (rest turned past xs : List X) → i ≡ k + 1 → j ≡ i + more + 1 → k + more < length rest
      → turned ≡ drop k rest ++ take k rest → turned ≡ x ∷ past → f ∷ rest ≡ xs → x ∷ take more past ≡ between i j xs
  taken_later i j k more f x rest turned past xs e size h is front all =
      let at : i ≡ suc k = omega arith in
      let many : j - i ≡ suc more = omega arith in
      (turned_front k more x rest turned past h is front).0
      ∙ ap (λ ys. take (suc more) (drop (suc k) ys)) all
      ∙ ap (λ (n : ℕ). take (suc more) (drop n xs)) (sym at)
      ∙ ap (λ (n : ℕ). take n (drop i xs)) (sym many)

  pub left_later : (i j k more n : ℕ) (f x : X) (rest turned past left back xs : List X) → i ≡ k + 1 → j ≡ i + more + 1 → k + more < length rest
      → turned ≡ drop k rest ++ take k rest → turned ≡ x ∷ past → left ≡ drop more past → n ≡ length left - k
      → back ≡ drop n left ++ take n left → f ∷ rest ≡ xs → f ∷ back ≡ without i j xs
  left_later i j k more n f x rest turned past left back xs e size h is front leaves many round all =
      let at : i ≡ suc k = omega arith in
      let to : j ≡ suc (k + suc more) = omega arith in
      let had : length turned ≡ length rest = ap length is ∙ length-append (drop k rest) (take k rest) ∙ (let a = length-drop k rest in let b = length-take-le k rest (omega arith) in omega arith) in
      let fewer : length turned ≡ suc (length past) = ap length front in
      let kept : length left ≡ length past - more = ap length leaves ∙ length-drop more past in
      let len : n + k ≡ length left = omega arith in
      let low : length (take k rest) ≡ k = length-take-le k rest (omega arith) in
      let parts : left ≡ drop (suc more) (drop k rest) ++ take k rest = leaves ∙ (turned_front k more x rest turned past h is front).1 in
      let sums : length left ≡ length (drop (suc more) (drop k rest)) + length (take k rest) = ap length parts ∙ length-append (drop (suc more) (drop k rest)) (take k rest) in
      let seam : length (drop (suc more) (drop k rest)) ≡ n = omega arith in
      let behind : drop n left ≡ take k rest = ap (drop n) parts ∙ drop_at (drop (suc more) (drop k rest)) (take k rest) n seam in
      let before : take n left ≡ drop (suc more) (drop k rest) = ap (take n) parts ∙ take_at (drop (suc more) (drop k rest)) (take k rest) n seam in
      let turns : back ≡ take k rest ++ drop (k + suc more) rest
      = round ∙ ap (λ ys. ys ++ take n left) behind ∙ ap (λ ys. take k rest ++ ys) (before ∙ drop-drop (suc more) k rest) in
      ap (λ ys. f ∷ ys) turns
      ∙ ap (λ ys. take (suc k) ys ++ drop (suc (k + suc more)) ys) all
      ∙ ap (λ (m : ℕ). take m xs ++ drop (suc (k + suc more)) xs) (sym at)
      ∙ ap (λ (m : ℕ). take i xs ++ drop m xs) (sym to)

  pub length-rotated : (i : ℕ) (xs : List X) → length (rotated i xs) ≡ length xs
  length-rotated i xs =
      let a = length-append (drop i xs) (take i xs) in
      let b = length-append (take i xs) (drop i xs) in
      let e = ap length (take-append-drop i xs) in
      omega (arith, a, b, e)

  pub length-inserted : (i : ℕ) (ys xs : List X) → length (inserted_after i ys xs) ≡ length xs + length ys
  length-inserted i ys xs =
      let a = length-append (take (i + 1) xs) (ys ++ drop (i + 1) xs) in
      let b = length-append ys (drop (i + 1) xs) in
      let d = length-append (take (i + 1) xs) (drop (i + 1) xs) in
      let e = ap length (take-append-drop (i + 1) xs) in
      omega (arith, a, b, d, e)

  pub length-between : (i j : ℕ) (xs : List X) → i ≤ j → j ≤ length xs → length (between i j xs) ≡ j - i
  length-between i j xs h k = length-take-le (j - i) (drop i xs) (let d = length-drop i xs in omega (arith, d))

  pub length-without : (i j : ℕ) (xs : List X) → i ≤ j → j ≤ length xs → length (without i j xs) + (j - i) ≡ length xs
  length-without i j xs h k =
      let a = length-append (take i xs) (drop j xs) in
      let b = length-take-le i xs (omega arith) in
      let d = length-drop j xs in
      omega (arith, a, b, d)

  pub length-slice_set : (i : ℕ) (x : X) (xs : List X) → length (slice_set xs i x) ≡ length xs
  length-slice_set i x [] = refl
  length-slice_set zero x (y ∷ ys) = refl
  length-slice_set (suc i) x (y ∷ ys) = ap (λ (n : ℕ). suc n) (length-slice_set i x ys)

  -- an item is put where another was put
  pub set-set : (i : ℕ) (x y : X) (xs : List X) → slice_set (slice_set xs i x) i y ≡ slice_set xs i y
  set-set i x y [] = refl
  set-set zero x y (z ∷ zs) = refl
  set-set (suc i) x y (z ∷ zs) = ap (λ ws. z ∷ ws) (set-set i x y zs)

  pub turns_at : (f : X → X) (i : ℕ) (w x y : X) (old mid new : List X) → slice_get old i ≡ Some x → mid ≡ slice_set old i w → y ≡ f x
      → new ≡ slice_set mid i y → TurnsAt f i old new
  turns_at f i w x y old mid new there away is back = record {
    item = x;
    there = there;
    turned = back ∙ ap (λ xs. slice_set xs i y) away ∙ set-set i w y old ∙ ap (λ z. slice_set old i z) is;
  }

  -- the item at a seam, and another in its place
  pub at_seam : (done todo : List X) (x y : X) → slice_get (done ++ todo) (length done) ≡ Some x
      → (tail : List X) × (todo ≡ x ∷ tail) × (slice_set (done ++ todo) (length done) y ≡ done ++ (y ∷ tail))
  at_seam [] [] x y is = absurd (none-some x is)
  at_seam [] (z ∷ zs) x y is = let same : z ≡ x = cc in (zs, ap (λ w. w ∷ zs) same, refl)
  at_seam (d ∷ ds) todo x y is = let more = at_seam ds todo x y is in (more.0, more.1, ap (λ ws. d ∷ ws) more.2)

  -- the last item before a seam, and another in its place
  pub before_seam : (i : ℕ) (front done : List X) (x y : X) → suc i ≡ length front → slice_get (front ++ done) i ≡ Some x
      → (front ≡ take i front ++ x ∷ []) × (slice_set (front ++ done) i y ≡ take i front ++ (y ∷ done))
  before_seam i [] done x y e is = absurd (omega arith)
  before_seam zero (z ∷ []) done x y e is = let same : z ≡ x = cc in (ap (λ w. w ∷ []) same, refl)
  before_seam zero (z ∷ u ∷ us) done x y e is = absurd (omega arith)
  before_seam (suc i) (z ∷ zs) done x y e is =
      let more = before_seam i zs done x y (omega arith) is in
      (ap (λ ws. z ∷ ws) more.0, ap (λ ws. z ∷ ws) more.1)

  -- what holds of the items so far, and of one more
  pub all_more : (P : X → Type 0) (i : ℕ) (xs : List X) (x : X) → Each P (take i xs) → slice_get xs i ≡ Some x → P x → Each P (take (i + 1) xs)
  all_more P i [] x all is p = absurd (none-some x is)
  all_more P zero (z ∷ zs) x all is p =
      let same : z ≡ x = cc in
      let one : zero + 1 ≡ suc zero = omega arith in
      let Q : ℕ → Type 0 = λ n. Each P (take n (z ∷ zs)) in
      subst Q (sym one) (subst P (sym same) p, tt)
  all_more P (suc i) (z ∷ zs) x all is p =
      let one : suc i + 1 ≡ suc (i + 1) = omega arith in
      let Q : ℕ → Type 0 = λ n. Each P (take n (z ∷ zs)) in
      subst Q (sym one) (all.0, all_more P i zs x all.1 is p)

  pub all_at : (P : X → Type 0) (i : ℕ) (xs : List X) (x : X) → Each P xs → slice_get xs i ≡ Some x → P x
  all_at P i [] x all is = absurd (none-some x is)
  all_at P zero (z ∷ zs) x all is = let same : z ≡ x = cc in subst P same all.0
  all_at P (suc i) (z ∷ zs) x all is = all_at P i zs x all.1 is

  pub each_nothing : (P : X → Type 0) (xs : List X) → Each P (take 0 xs)
  each_nothing P xs = tt

  pub each_all : (P : X → Type 0) (i : ℕ) (xs : List X) → Each P (take i xs) → length xs ≤ i → Each P xs
  each_all P i xs all h = let Q : List X → Type 0 = λ ys. Each P ys in subst Q (take_all i xs h) all

  -- what stands at a place, and behind it
  pub drop_there : (i : ℕ) (xs : List X) (x : X) → slice_get xs i ≡ Some x → drop i xs ≡ x ∷ drop (i + 1) xs
  drop_there i [] x is = absurd (none-some x is)
  drop_there zero (z ∷ zs) x is =
      let same : z ≡ x = cc in
      let one : suc zero ≡ zero + 1 = omega arith in
      ap (λ w. w ∷ zs) same ∙ ap (λ (n : ℕ). x ∷ drop n (z ∷ zs)) one
  drop_there (suc i) (z ∷ zs) x is =
      let one : suc (i + 1) ≡ suc i + 1 = omega arith in
      drop_there i zs x is ∙ ap (λ (n : ℕ). x ∷ drop n (z ∷ zs)) one

  -- what stands before a place doesn't change with it
  pub take-set : (i : ℕ) (x : X) (xs : List X) → take i (slice_set xs i x) ≡ take i xs
  take-set zero x xs = refl
  take-set (suc i) x [] = refl
  take-set (suc i) x (z ∷ zs) = ap (λ ws. z ∷ ws) (take-set i x zs)

  pub drop-set : (i : ℕ) (x : X) (xs : List X) → i < length xs → drop i (slice_set xs i x) ≡ x ∷ drop (i + 1) xs
  drop-set i x [] h = absurd (omega arith)
  drop-set zero x (z ∷ zs) h = let one : suc zero ≡ zero + 1 = omega arith in ap (λ (n : ℕ). x ∷ drop n (z ∷ zs)) one
  drop-set (suc i) x (z ∷ zs) h =
      let one : suc (i + 1) ≡ suc i + 1 = omega arith in
      drop-set i x zs (omega arith) ∙ ap (λ (n : ℕ). x ∷ drop n (z ∷ zs)) one

  pub slice_get-set : (i : ℕ) (x : X) (xs : List X) → i < length xs → slice_get (slice_set xs i x) i ≡ Some x
  slice_get-set i x [] h = absurd (omega arith)
  slice_get-set zero x (z ∷ zs) h = refl
  slice_get-set (suc i) x (z ∷ zs) h = slice_get-set i x zs (omega arith)

  pub rotated_permutes : (i : ℕ) (xs : List X) → IsPermutation xs (rotated i xs)
  rotated_permutes i xs =
      let P : List X → Type 0 = λ ys. IsPermutation ys (rotated i xs) in
      subst P (take-append-drop i xs) (IsPermutation-append_comm (take i xs) (drop i xs))
