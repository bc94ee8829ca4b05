-- The last node of a chain, and the room that it lends.
use Rattle.std.proofs.Common.{◌≡◌, ℕ, suc, zero, ◌+◌, ◌-◌, ◌<◌, ◌≤◌, List, [], ◌∷◌, ◌++◌, length, take, drop, sym, ap, refl, subst, ◌∙◌, arith, length-append, slice_set, slice_index_or, Some, Option, IfSome}
use Rattle.std.proofs.lemmas.List.{length-take, length-drop}
use Rattle.raw_block.specs.Spans.{with_span}
use Rattle.buffer_model.specs.Segment.{Segment, block_of, bytes_of, cut}
use Rattle.buffer_model.proofs.Windows.{block_of-cut, recut, block_length, length-with_span}
use Rattle.iobuf_node.specs.declared.mine.Mine.{Mine}
use Rattle.iobuf_node.specs.Mine.{seen, with_tail, tail_written}
use Rattle.iobuf_node.proofs.Windows.{writes_tail}
use Rattle.iobuf_chain.specs.Tails.{last_of, turned_last, filled_tail, filled_behind}

module _ {X : Type 0} where
  last_is : (x : X) (ys : List X) (i : ℕ) (r : X) → i + 1 ≡ length ys → r ≡ slice_index_or ys i r → last_of (x ∷ ys) ≡ Some r
  last_is x [] i r e v = absurd (omega arith)
  last_is x (y ∷ []) zero r e v = ap (λ z. Some z) (sym v)
  last_is x (y ∷ []) (suc i) r e v = absurd (omega arith)
  last_is x (y ∷ z ∷ zs) zero r e v = absurd (omega arith)
  last_is x (y ∷ z ∷ zs) (suc i) r e v = last_is y (z ∷ zs) i r (omega arith) v

  turns_last : (f : X → X) (x : X) (ys : List X) (i : ℕ) (r : X) → i + 1 ≡ length ys → r ≡ slice_index_or ys i r
      → x ∷ slice_set ys i (f r) ≡ turned_last f (x ∷ ys)
  turns_last f x [] i r e v = absurd (omega arith)
  turns_last f x (y ∷ []) zero r e v = ap (λ z. x ∷ f z ∷ []) v
  turns_last f x (y ∷ []) (suc i) r e v = absurd (omega arith)
  turns_last f x (y ∷ z ∷ zs) zero r e v = absurd (omega arith)
  turns_last f x (y ∷ z ∷ zs) (suc i) r e v = ap (λ ws. x ∷ ws) (turns_last f y (z ∷ zs) i r (omega arith) v)

  -- the last item, of which the place among all but the first is one less than their number
  pub last_at : (x : X) (ys xs : List X) (more : ℕ) (r : X) → x ∷ ys ≡ xs → more + 1 ≡ length (x ∷ ys) → 0 < more → r ≡ slice_index_or ys (more - 1) r
      → last_of xs ≡ Some r
  last_at x ys xs more r is size some v =
      let k : (more - 1) + 1 ≡ length ys = omega (arith, size, some) in
      ap last_of (sym is) ∙ last_is x ys (more - 1) r k v

  pub turns_at : (f : X → X) (x : X) (ys xs : List X) (more : ℕ) (r : X) → x ∷ ys ≡ xs → more + 1 ≡ length (x ∷ ys) → 0 < more
      → r ≡ slice_index_or ys (more - 1) r → x ∷ slice_set ys (more - 1) (f r) ≡ turned_last f xs
  turns_at f x ys xs more r is size some v =
      let k : (more - 1) + 1 ≡ length ys = omega (arith, size, some) in
      turns_last f x ys (more - 1) r k v ∙ ap (turned_last f) is

  no_more : (ys : List X) → length ys ≡ 0 → ys ≡ []
  no_more [] e = refl
  no_more (y ∷ ys) e = absurd (omega arith)

  -- the last item, where it is the first
  pub last_alone : (x : X) (ys xs : List X) (more : ℕ) → x ∷ ys ≡ xs → more + 1 ≡ length (x ∷ ys) → more ≡ 0 → last_of xs ≡ Some x
  last_alone x ys xs more is size none = ap last_of (sym is) ∙ ap (λ zs. last_of (x ∷ zs)) (no_more ys (omega (arith, size, none)))

  pub turns_alone : (f : X → X) (x : X) (ys xs : List X) (more : ℕ) → x ∷ ys ≡ xs → more + 1 ≡ length (x ∷ ys) → more ≡ 0 → f x ∷ ys ≡ turned_last f xs
  turns_alone f x ys xs more is size none =
      let one = no_more ys (omega (arith, size, none)) in
      ap (λ zs. f x ∷ zs) one ∙ ap (λ zs. turned_last f (x ∷ zs)) (sym one) ∙ ap (turned_last f) is

  pub if_some : (P : X → Type 0) (o : Option X) (x : X) → o ≡ Some x → IfSome o P → P x
  if_some P o x e h = let Q : Option X → Type 0 = λ z. IfSome z P in subst Q e h

  pub some_if : (P : X → Type 0) (o : Option X) (x : X) → o ≡ Some x → P x → IfSome o P
  some_if P o x e h = let Q : Option X → Type 0 = λ z. IfSome z P in subst Q (sym e) h

  pub length-turned : (f : X → X) (xs : List X) → length (turned_last f xs) ≡ length xs
  length-turned f [] = refl
  length-turned f (x ∷ []) = refl
  length-turned f (x ∷ y ∷ ys) = ap (λ (n : ℕ). suc n) (length-turned f (y ∷ ys))

module _ {O : Type 0} where
  pub tail_seen : (m : Mine O) (w : List ℕ) → seen (with_tail m w) ≡ filled_tail (seen m) w
  tail_seen m w =
      let s = seen m in
      ap (λ b. cut (with_span b (length s.before + length s.window) w) (length s.before) (length s.window) s.share) (sym (block_of-cut m.hold.bytes m.start m.len m.hold.share))

  -- data stay as many where the room behind them is written
  window_stays : (s : Segment O) (w : List ℕ) → length (filled_tail s w).window ≡ length s.window
  window_stays s w =
      let b = with_span (block_of s) (length s.before + length s.window) w in
      let size = length-with_span (block_of s) (length s.before + length s.window) w in
      let whole = block_length s in
      let rest = length-drop (length s.before) b in
      let some = length-take (length s.window) (drop (length s.before) b) in
      omega (arith, size, whole, rest, some)

  pub sum_stays : (ss : List (Segment O)) (w : List ℕ) → length (bytes_of (filled_behind ss w)) ≡ length (bytes_of ss)
  sum_stays [] w = refl
  sum_stays (s ∷ []) w =
      let e = window_stays s w in
      let l = length-append (filled_tail s w).window [] in
      let k = length-append s.window [] in
      omega (arith, e, l, k)
  sum_stays (s ∷ t ∷ ts) w =
      let e = sum_stays (t ∷ ts) w in
      let l = length-append s.window (bytes_of (filled_behind (t ∷ ts) w)) in
      let k = length-append s.window (bytes_of (t ∷ ts)) in
      omega (arith, e, l, k)

  pub length-behind : (ss : List (Segment O)) (w : List ℕ) → length (filled_behind ss w) ≡ length ss
  length-behind ss w = length-turned (λ s. filled_tail s w) ss

  -- bytes that fit stand in the room behind the data, and all else stays
  pub writes_behind : (s : Segment O) (w : List ℕ) → length w ≤ length s.after → filled_tail s w ≡ tail_written w s
  writes_behind s w fits =
      let m : Mine O = record { hold = record { bytes = block_of s; share = s.share }; start = length s.before; len = length s.window } in
      let e : seen m ≡ s = recut (block_of s) (length s.before) (length s.window) s refl refl refl in
      let P : Segment O → Type 0 = λ t. length w ≤ length t.after → filled_tail t w ≡ tail_written w t in
      subst P e (λ h. sym (tail_seen m w) ∙ writes_tail m w h) fits
