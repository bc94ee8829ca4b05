-- Windows on blocks: where they are cut, and what the three lists then are.
use Rattle.std.proofs.Common.{◌≡◌, ℕ, ◌+◌, ◌-◌, ◌≤◌, List, [], ◌∷◌, ◌++◌, take, drop, length, replicate, sym, refl, ap, ◌∙◌, append_assoc, arith, length-append}
use Rattle.std.proofs.Math.Seq.{take-append_seam, drop-append_seam, take-length, take-add}
use Rattle.std.proofs.lemmas.List.{drop-drop, length-take, length-take-le, length-drop, take-append-drop}
use Rattle.buffer_model.specs.Share.{Share}
use Rattle.std.specs.List.{copy_within, length_refill}
use Rattle.std.proofs.lemmas.List.{append-nil, drop_all, take-replicate, drop-replicate, length-replicate}
use Rattle.buffer_model.specs.Share.{Held}
use Rattle.raw_block.specs.Spans.{with_span}
use Rattle.buffer_model.specs.Segment.{Segment, cut, block_of, bytes_of, trimmed_start, trimmed_end, appended, prepended, overwritten, moved_to, rewritten, between_rooms, hold_of, shared_as}

-- bytes written into a block from p on, where they fit
pub with_span-fits : (b : List ℕ) (p : ℕ) (w : List ℕ) → p + length w ≤ length b → with_span b p w ≡ take p b ++ (w ++ drop (p + length w) b)
with_span-fits b p w fits =
    let all = take p b ++ (w ++ drop (length w) (drop p b)) in
    let len : length all ≡ length b = omega (arith, length-append (take p b) (w ++ drop (length w) (drop p b)), length-append w (drop (length w) (drop p b)), length-take p b, length-drop (length w) (drop p b), length-drop p b) in
    let none : drop (length all) b ≡ [] = drop_all (length all) b (omega arith) in
    let joined : all ++ drop (length all) b ≡ all = ap (λ x. all ++ x) none ∙ append-nil all in
    ap (λ x. take (length b) x) joined ∙ ap (λ (n : ℕ). take n all) (sym len) ∙ take-length all ∙ ap (λ x. take p b ++ (w ++ x)) (drop-drop (length w) p b)

pub length-with_span : (b : List ℕ) (p : ℕ) (w : List ℕ) → length (with_span b p w) ≡ length b
length-with_span b p w = sym (length_refill (length b) b (take p b ++ (w ++ drop (length w) (drop p b))) refl)

-- bytes written into a block of zeros
pub in_zeros : (head tail : ℕ) (w : List ℕ) → with_span (replicate ((head + length w) + tail) 0) head w ≡ replicate head 0 ++ (w ++ replicate tail 0)
in_zeros head tail w =
    let all = (head + length w) + tail in
    let left : all - (head + length w) ≡ tail = omega arith in
    with_span-fits (replicate all 0) head w (omega (arith, length-replicate {A = ℕ} all 0))
    ∙ ap (λ x. x ++ (w ++ drop (head + length w) (replicate all 0))) (take-replicate head all 0 (omega arith))
    ∙ ap (λ x. replicate head 0 ++ (w ++ x)) (drop-replicate (head + length w) all 0 ∙ ap (λ (n : ℕ). replicate n 0) left)

module _ {O : Type 0} where
  -- a block that is cut where the window of t lies is t
  pub recut : (b : List ℕ) (s n : ℕ) (t : Segment O) → block_of t ≡ b → length t.before ≡ s → length t.window ≡ n → cut b s n t.share ≡ t
  recut b s n t block start len =
      let rest : drop s b ≡ t.window ++ t.after =
      ap (λ (x : ℕ). drop x b) (sym start) ∙ ap (λ x. drop (length t.before) x) (sym block) ∙ drop-append_seam t.before (t.window ++ t.after) in
      let before : take s b ≡ t.before =
      ap (λ (x : ℕ). take x b) (sym start) ∙ ap (λ x. take (length t.before) x) (sym block) ∙ take-append_seam t.before (t.window ++ t.after) in
      let window : take n (drop s b) ≡ t.window =
      ap (λ x. take n x) rest ∙ ap (λ (x : ℕ). take x (t.window ++ t.after)) (sym len) ∙ take-append_seam t.window t.after in
      let after : drop (s + n) b ≡ t.after =
      sym (drop-drop n s b) ∙ ap (λ x. drop n x) rest ∙ ap (λ (x : ℕ). drop x (t.window ++ t.after)) (sym len) ∙ drop-append_seam t.window t.after in
      λ i. record { before = before i; window = window i; after = after i; share = t.share }

  pub block_length : (v : Segment O) → length (block_of v) ≡ length v.before + (length v.window + length v.after)
  block_length v = omega (arith, length-append v.before (v.window ++ v.after), length-append v.window v.after)

  pub bytes_of-append : (xs ys : List (Segment O)) → bytes_of (xs ++ ys) ≡ bytes_of xs ++ bytes_of ys
  bytes_of-append [] ys = refl
  bytes_of-append (x ∷ xs) ys = ap (λ w. x.window ++ w) (bytes_of-append xs ys) ∙ sym (append_assoc x.window (bytes_of xs) (bytes_of ys))

  pub trims_twice : (s : Segment O) (m n : ℕ) → trimmed_start n (trimmed_start m s) ≡ trimmed_start (m + n) s
  trims_twice s m n = rw (append_assoc s.before (take m s.window) (take n (drop m s.window)), ← take-add m n s.window, drop-drop n m s.window) refl

  -- calls that only move the window keep the block
  pub trimmed_start-block : (m : ℕ) (v : Segment O) → block_of (trimmed_start m v) ≡ block_of v
  trimmed_start-block m v =
      append_assoc v.before (take m v.window) (drop m v.window ++ v.after) ∙ ap (λ x. v.before ++ x) (sym (append_assoc (take m v.window) (drop m v.window) v.after) ∙ ap (λ x. x ++ v.after) (take-append-drop m v.window))

  pub trimmed_end-block : (m : ℕ) (v : Segment O) → block_of (trimmed_end m v) ≡ block_of v
  trimmed_end-block m v =
      let left = length v.window - m in
      ap (λ x. v.before ++ x) (sym (append_assoc (take left v.window) (drop left v.window) v.after) ∙ ap (λ x. x ++ v.after) (take-append-drop left v.window))

  pub appended-block : (m : ℕ) (v : Segment O) → block_of (appended m v) ≡ block_of v
  appended-block m v =
      ap (λ x. v.before ++ x) (append_assoc v.window (take m v.after) (drop m v.after) ∙ ap (λ x. v.window ++ x) (take-append-drop m v.after))

  pub prepended-block : (m : ℕ) (v : Segment O) → block_of (prepended m v) ≡ block_of v
  prepended-block m v =
      let left = length v.before - m in
      ap (λ x. take left v.before ++ x) (append_assoc (drop left v.before) v.window v.after) ∙ sym (append_assoc (take left v.before) (drop left v.before) (v.window ++ v.after)) ∙ ap (λ x. x ++ (v.window ++ v.after)) (take-append-drop left v.before)

  -- what the end lost comes back from the room after it
  pub append_undoes_trim : (m : ℕ) (v : Segment O) → m ≤ length v.window → appended m (trimmed_end m v) ≡ v
  append_undoes_trim m v h =
      let left = length v.window - m in
      let lost = drop left v.window in
      let size : m ≡ length lost = omega (arith, length-drop left v.window) in
      let back : take m (lost ++ v.after) ≡ lost = ap (λ (n : ℕ). take n (lost ++ v.after)) size ∙ take-append_seam lost v.after in
      let rest : drop m (lost ++ v.after) ≡ v.after = ap (λ (n : ℕ). drop n (lost ++ v.after)) size ∙ drop-append_seam lost v.after in
      let window : take left v.window ++ take m (lost ++ v.after) ≡ v.window = ap (λ x. take left v.window ++ x) back ∙ take-append-drop left v.window in
      λ i. record { before = v.before; window = window i; after = rest i; share = v.share }

  -- what the front lost comes back from the room before it
  pub prepend_undoes_trim : (m : ℕ) (v : Segment O) → m ≤ length v.window → prepended m (trimmed_start m v) ≡ v
  prepend_undoes_trim m v h =
      let lost = take m v.window in
      let all = v.before ++ lost in
      let left : length all - m ≡ length v.before = omega (arith, length-append v.before lost, length-take-le m v.window h) in
      let rest : take (length all - m) all ≡ v.before = ap (λ (n : ℕ). take n all) left ∙ take-append_seam v.before lost in
      let back : drop (length all - m) all ≡ lost = ap (λ (n : ℕ). drop n all) left ∙ drop-append_seam v.before lost in
      let window : drop (length all - m) all ++ drop m v.window ≡ v.window = ap (λ x. x ++ drop m v.window) back ∙ take-append-drop m v.window in
      λ i. record { before = rest i; window = window i; after = v.after; share = v.share }

  -- the block of what was cut
  pub block_of-cut : (b : List ℕ) (s n : ℕ) (k : Share O) → block_of (cut b s n k) ≡ b
  block_of-cut b s n k =
      ap (λ x. take s b ++ (take n (drop s b) ++ x)) (sym (drop-drop n s b)) ∙ ap (λ x. take s b ++ x) (take-append-drop n (drop s b)) ∙ take-append-drop s b

  -- bytes between rooms, cut where they lie
  pub cut-rooms : (head tail : ℕ) (w : List ℕ) (h : Held O) (len : ℕ) → h.bytes ≡ replicate head 0 ++ (w ++ replicate tail 0) → len ≡ length w → cut h.bytes head len h.share ≡ between_rooms head tail w h.share
  cut-rooms head tail w h len is same =
      ap (λ x. cut x head len h.share) is
      ∙ recut (replicate head 0 ++ (w ++ replicate tail 0)) head len (between_rooms head tail w h.share) refl (length-replicate {A = ℕ} head 0) (sym same)

  -- the same window on a copy of the block
  pub copied : (v : Segment O) (start len : ℕ) (h : Held O) (b : List ℕ) → start ≡ length v.before → len ≡ length v.window → b ≡ block_of v → h.bytes ≡ b → cut h.bytes start len h.share ≡ shared_as h.share v
  copied v start len h b at width block is =
      ap (λ x. cut x start len h.share) (is ∙ block) ∙ recut (block_of v) start len (shared_as h.share v) refl (sym at) (sym width)

  module _ (b : List ℕ) (s n : ℕ) (k : Share O) (v : Segment O) (is : cut b s n k ≡ v) where
    pub block_is : block_of v ≡ b
    block_is = ap block_of (sym is) ∙ block_of-cut b s n k

    share_is : v.share ≡ k
    share_is = ap (λ (x : Segment O). x.share) (sym is)

    -- cut anew, it is the segment whose three lists have the same block
    pub is_recut : (start len : ℕ) (t : Segment O) → block_of t ≡ block_of v → t.share ≡ v.share → length t.before ≡ start → length t.window ≡ len → cut b start len k ≡ t
    is_recut start len t block share before window =
        ap (cut b start len) (sym (share ∙ share_is)) ∙ recut b start len t (block ∙ block_is) before window

    module _ (m start len : ℕ) where
      pub trims_start : m ≤ length v.window → start ≡ length v.before + m → len ≡ length v.window - m → cut b start len k ≡ trimmed_start m v
      trims_start h at rest =
          is_recut start len (trimmed_start m v) (trimmed_start-block m v) refl (omega (arith, length-append v.before (take m v.window), length-take-le m v.window h)) (omega (arith, length-drop m v.window))

      pub trims_end : m ≤ length v.window → start ≡ length v.before → len ≡ length v.window - m → cut b start len k ≡ trimmed_end m v
      trims_end h at rest =
          let left = length v.window - m in
          is_recut start len (trimmed_end m v) (trimmed_end-block m v) refl (sym at) (omega (arith, length-take left v.window))

      pub appends : m ≤ length v.after → start ≡ length v.before → len ≡ length v.window + m → cut b start len k ≡ appended m v
      appends h at rest =
          is_recut start len (appended m v) (appended-block m v) refl (sym at) (omega (arith, length-append v.window (take m v.after), length-take-le m v.after h))

      pub prepends : m ≤ length v.before → start ≡ length v.before - m → len ≡ length v.window + m → cut b start len k ≡ prepended m v
      prepends h at rest =
          let left = length v.before - m in
          is_recut start len (prepended m v) (prepended-block m v) refl (omega (arith, length-take left v.before)) (omega (arith, length-append (drop left v.before) v.window, length-drop left v.before))

    -- a hold that shows this window is known by it
    pub held_is : (h : Held O) → h.bytes ≡ b → h.share ≡ k → h ≡ hold_of v
    held_is h bytes share = λ i. record { bytes = (bytes ∙ sym block_is) i; share = (share ∙ sym share_is) i }

    -- the window's bytes copied to p on, and the window there
    pub moves : (from p len : ℕ) (h : Held O) → from ≡ length v.before → len ≡ length v.window → h ≡ record { bytes = copy_within b from (from + len) p; share = k } → cut h.bytes p len h.share ≡ moved_to p v
    moves from p len h at width is' =
        let wide : (from + len) - from ≡ length v.window = omega arith in
        let part : take (length v.window) (drop (length v.before) (block_of v)) ≡ v.window =
        ap (λ x. take (length v.window) x) (drop-append_seam v.before (v.window ++ v.after)) ∙ take-append_seam v.window v.after in
        let block : copy_within b from (from + len) p ≡ overwritten (block_of v) p v.window =
        append_assoc (take p b) (take ((from + len) - from) (drop from b)) (drop (p + ((from + len) - from)) b)
        ∙ ap (λ x. take p x ++ (take ((from + len) - from) (drop from x) ++ drop (p + ((from + len) - from)) x)) (sym block_is)
        ∙ ap (λ (w : ℕ). take p (block_of v) ++ (take w (drop from (block_of v)) ++ drop (p + w) (block_of v))) wide
        ∙ ap (λ (a : ℕ). take p (block_of v) ++ (take (length v.window) (drop a (block_of v)) ++ drop (p + length v.window) (block_of v))) at
        ∙ ap (λ y. take p (block_of v) ++ (y ++ drop (p + length v.window) (block_of v))) part in
        ap (λ (x : Held O). cut x.bytes p len x.share) is'
        ∙ ap (λ x. cut x p len k) block
        ∙ ap (λ (n : ℕ). cut (overwritten (block_of v) p v.window) p n k) width
        ∙ ap (λ x. cut (overwritten (block_of v) p v.window) p (length v.window) x) (sym share_is)

    -- other bytes written into the window
    pub writes : (w : List ℕ) → length w ≡ length v.window → cut (with_span b (length v.before) w) (length v.before) (length v.window) k ≡ rewritten w v
    writes w same =
        let whole = block_length v in
        let size : length (block_of v) ≡ length b = ap length block_is in
        let fits : length v.before + length w ≤ length b = omega arith in
        let front : take (length v.before) b ≡ v.before = ap (λ x. take (length v.before) x) (sym block_is) ∙ take-append_seam v.before (v.window ++ v.after) in
        let rest : drop (length v.before + length w) b ≡ v.after =
        ap (λ (n : ℕ). drop (length v.before + n) b) same ∙ sym (drop-drop (length v.window) (length v.before) b) ∙ ap (λ x. drop (length v.window) (drop (length v.before) x)) (sym block_is) ∙ ap (λ x. drop (length v.window) x) (drop-append_seam v.before (v.window ++ v.after)) ∙ drop-append_seam v.window v.after in
        let block : with_span b (length v.before) w ≡ v.before ++ (w ++ v.after) =
        with_span-fits b (length v.before) w fits ∙ ap (λ x. x ++ (w ++ drop (length v.before + length w) b)) front ∙ ap (λ x. v.before ++ (w ++ x)) rest in
        ap (cut (with_span b (length v.before) w) (length v.before) (length v.window)) (sym share_is) ∙ recut (with_span b (length v.before) w) (length v.before) (length v.window) (rewritten w v) (sym block) refl same
