-- Queues, and the last nodes of chains.
use Rattle.std.proofs.Common.{◌≡◌, ℕ, zero, suc, ◌+◌, ◌<◌, ◌≤◌, Bool}
use Rattle.std.proofs.Common.{true, false, List, [], ◌∷◌, ◌++◌, if◌then◌else◌, Option}
use Rattle.std.proofs.Common.{Some, None, Result, Ok, IfSome, length, take, refl}
use Rattle.std.proofs.Common.{sym, ap, subst, ◌∙◌, arith, slice_get, slice_set, length-append}
use Rattle.std.proofs.lemmas.Option.{none-some}
use Rattle.std.proofs.lemmas.Bool.{false≢true}
use Rattle.std.proofs.lemmas.List.{length-take, length-drop, length-replicate, append-nil}
use Rattle.raw_block.specs.Spans.{with_span}
use Rattle.buffer_model.specs.Share.{IsAlone}
use Rattle.buffer_model.specs.Segment.{Segment, bytes_of, block_of, appended, between_rooms}
use Rattle.buffer_model.specs.Minted.{Numbers}
use Rattle.buffer_model.specs.Stake.{Stake, Storage, held, Keeps, KeepsTotals, KeepsTotalsBeside}
use Rattle.buffer_model.proofs.Totals.{keeps_same, keeps-append}
use Rattle.buffer_model.proofs.Windows.{block_length, length-with_span}
use Rattle.iobuf_chain.specs.Accounts.{held_by}
use Rattle.iobuf_chain.specs.Tails.{last_of, turned_last, filled_tail, filled_behind}
use Rattle.iobuf_chain.proofs.Lists.{set-set}
use Rattle.iobuf_chain.proofs.Bytes.{sum-set}
use Rattle.iobuf_chain.proofs.Accounts.{held_by-append}
use Rattle.iobuf_chain.proofs.Tailed.{some_if}
use Rattle.iobuf_queue.specs.Parts.{claims, HasTailAt, HasTail}
use Rattle.iobuf_queue.specs.Queued.{Queued, queue_of, shown, IsBlank, IsOffered, room_of, written}

module _ {X : Type 0} where
  pub same_ok : {E F : Type 0} (x y : X) → ◌≡◌ {A = Result X E} (Ok x) (Ok y) → ◌≡◌ {A = Result X F} (Ok x) (Ok y)
  same_ok x y e = let same : x ≡ y = cc in ap (λ z. Ok z) same

  pub last_there : (xs : List X) (i : ℕ) (x : X) → i + 1 ≡ length xs → slice_get xs i ≡ Some x → last_of xs ≡ Some x
  last_there [] i x e is = absurd (none-some x is)
  last_there (y ∷ []) zero x e is = is
  last_there (y ∷ []) (suc i) x e is = absurd (omega arith)
  last_there (y ∷ z ∷ zs) zero x e is = absurd (omega arith)
  last_there (y ∷ z ∷ zs) (suc i) x e is = last_there (z ∷ zs) i x (omega arith) is

  set_last : (f : X → X) (xs : List X) (i : ℕ) (x : X) → i + 1 ≡ length xs → slice_get xs i ≡ Some x
      → slice_set xs i (f x) ≡ turned_last f xs
  set_last f [] i x e is = absurd (none-some x is)
  set_last f (y ∷ []) zero x e is = let same : y ≡ x = cc in ap (λ z. f z ∷ []) (sym same)
  set_last f (y ∷ []) (suc i) x e is = absurd (omega arith)
  set_last f (y ∷ z ∷ zs) zero x e is = absurd (omega arith)
  set_last f (y ∷ z ∷ zs) (suc i) x e is = ap (λ ws. y ∷ ws) (set_last f (z ∷ zs) i x (omega arith) is)

  set_back : (i : ℕ) (w y : X) (old mid new : List X) → mid ≡ slice_set old i w → new ≡ slice_set mid i y
      → new ≡ slice_set old i y
  set_back i w y old mid new away back = back ∙ ap (λ xs. slice_set xs i y) away ∙ set-set i w y old

  -- the last item was taken out, another stood in its place, and it came back as `f` makes it
  pub last_turned : (f : X → X) (i : ℕ) (w x y : X) (old mid new : List X) → i + 1 ≡ length old
      → slice_get old i ≡ Some x
      → mid ≡ slice_set old i w → y ≡ f x → new ≡ slice_set mid i y → new ≡ turned_last f old
  last_turned f i w x y old mid new e there away is back =
      set_back i w y old mid new away back ∙ ap (λ z. slice_set old i z) is ∙ set_last f old i x e there

module _ {O : Type 0} where
  pub made_alone : (a b : Numbers) (old out : List (Segment O)) (s : Segment O) → old ≡ [] → out ≡ s ∷ []
      → KeepsTotalsBeside a b [] (held s.share ∷ []) → KeepsTotalsBeside a b (held_by old) (held_by out)
  made_alone a b old out s none is k =
      let P : List (Segment O) → Type 0 = λ xs. KeepsTotalsBeside a b (held_by xs) (held_by out) in
      let Q : List (Segment O) → Type 0 = λ ys. KeepsTotalsBeside a b [] (held_by ys) in
      subst P (sym none) (subst Q (sym is) k)

  set_keeps : (i : ℕ) (xs : List (Segment O)) (x y : Segment O) (z : Storage) → slice_get xs i ≡ Some x
      → Keeps (held x.share ∷ []) (held y.share ∷ []) z → Keeps (held_by xs) (held_by (slice_set xs i y)) z
  set_keeps i [] x y z is k = absurd (none-some x is)
  set_keeps zero (w ∷ ws) x y z is k =
      let same : x ≡ w = cc in
      let P : Segment O → Type 0 = λ t. Keeps (held t.share ∷ held_by ws) (held y.share ∷ held_by ws) z in
      subst P same (keeps-append z (held x.share ∷ []) (held_by ws) (held y.share ∷ []) (held_by ws) k (keeps_same
      (held_by ws) z))
  set_keeps (suc i) (w ∷ ws) x y z is k =
      keeps-append z (held w.share ∷ []) (held_by ws) (held w.share ∷ []) (held_by (slice_set ws i y))
      (keeps_same (held w.share ∷ []) z) (set_keeps i ws x y z is k)

  -- a node was taken out, another stood in its place, and it came back with the same of its storage
  pub back_keeps : (i : ℕ) (w x y : Segment O) (old mid new : List (Segment O)) → slice_get old i ≡ Some x
      → mid ≡ slice_set old i w
      → new ≡ slice_set mid i y → KeepsTotals (held x.share ∷ []) (held y.share ∷ [])
      → KeepsTotals (held_by old) (held_by new)
  back_keeps i w x y old mid new there away back k =
      let P : List (Segment O) → Type 0 = λ xs. KeepsTotals (held_by old) (held_by xs) in
      subst P (sym (set_back i w y old mid new away back)) (λ z. set_keeps i old x y z there (k z))

  pub sum_back : (i : ℕ) (w x y : Segment O) (old mid : List (Segment O)) → slice_get old i ≡ Some x
      → mid ≡ slice_set old i w
      → length (bytes_of (slice_set mid i y)) + length x.window ≡ length (bytes_of old) + length y.window
  sum_back i w x y old mid there away =
      let same : length (bytes_of (slice_set mid i y)) ≡ length (bytes_of (slice_set old i y)) = ap (λ xs. length
      (bytes_of xs)) (set_back i w y old mid (slice_set mid i y) away refl) in
      let sums = sum-set i old x y there in
      omega (arith, same, sums)

  pub appended_length : (n : ℕ) (s t : Segment O) → t ≡ appended n s → length t.window ≤ length s.window + n
  appended_length n s t is =
      let a : length t.window ≡ length (s.window ++ take n s.after) = ap (λ (u : Segment O). length u.window) is in
      let b = length-append s.window (take n s.after) in
      let c = length-take n s.after in
      omega (arith, a, b, c)

  pub room_there : (n : ℕ) (o : Option (Segment O)) (s : Segment O) → o ≡ Some s → n ≤ length (room_of o)
      → n ≤ length s.after
  room_there n o s e h = let P : Option (Segment O) → Type 0 = λ z. n ≤ length (room_of z) in subst P e h

  room_at : (o : Option (Segment O)) (lent n : ℕ) → (0 < lent
      → IfSome o (λ s. IsAlone s.share × (lent ≤ length s.after)))
      → n ≤ lent → (o ≡ None → n ≡ 0) → n ≤ length (room_of o)
  room_at None lent n h le none = let e = none refl in omega (arith, e)
  room_at (Some s) zero n h le none = omega (arith, le)
  room_at (Some s) (suc k) n h le none = let r = (h (omega arith)).1 in omega (arith, r, le)

  last_some : (xs : List (Segment O)) → 0 < length xs → last_of xs ≡ None → ⊥
  last_some [] h e = absurd (omega arith)
  last_some (x ∷ []) h e = none-some x (sym e)
  last_some (x ∷ y ∷ ys) h e = last_some (y ∷ ys) (omega arith) e

  pub offer_room : (xs : List (Segment O)) (lent n : ℕ) → IsOffered xs lent → 0 < length xs → n ≤ lent
      → n ≤ length (room_of (last_of xs))
  offer_room xs lent n h some le = room_at (last_of xs) lent n h le (λ e. absurd (last_some xs some e))

  after_stays : (s : Segment O) (w : List ℕ) → length (filled_tail s w).after ≡ length s.after
  after_stays s w =
      let b = with_span (block_of s) (length s.before + length s.window) w in
      let size = length-with_span (block_of s) (length s.before + length s.window) w in
      let whole = block_length s in
      let rest = length-drop (length s.before + length s.window) b in
      omega (arith, size, whole, rest)

  offer_stays : (xs : List (Segment O)) (lent : ℕ) (w : List ℕ)
      → IfSome (last_of xs) (λ s. IsAlone s.share × (lent ≤ length s.after))
      → IfSome (last_of (filled_behind xs w)) (λ s. IsAlone s.share × (lent ≤ length s.after))
  offer_stays [] lent w h = h
  offer_stays (s ∷ []) lent w h = let same = after_stays s w in (h.0, omega (arith, same, h.1))
  offer_stays (s ∷ t ∷ []) lent w h = offer_stays (t ∷ []) lent w h
  offer_stays (s ∷ t ∷ u ∷ us) lent w h = offer_stays (t ∷ u ∷ us) lent w h

  pub offered_on : (xs : List (Segment O)) (lent : ℕ) (w : List ℕ) → IsOffered xs lent
      → IsOffered (filled_behind xs w) lent
  offered_on xs lent w h some = offer_stays xs lent w (h some)

  pub writes : (b : Bool) (xs : List (Segment O)) (lent : ℕ) (w : List ℕ) → 0 < lent → IsBlank b xs lent
      → shown b (filled_behind xs w) lent ≡ written (shown b xs lent) w
  writes true xs lent w some blank = let none = (blank refl).1 in absurd (omega (arith, none, some))
  writes false xs zero w some blank = absurd (omega arith)
  writes false xs (suc n) w some blank = refl

  pub blank_not : (b : Bool) (xs ys : List (Segment O)) (lent : ℕ) → 0 < lent → IsBlank b xs lent → IsBlank b ys lent
  blank_not b xs ys lent some blank e = let none = (blank e).1 in absurd (omega (arith, none, some))

  pub value_at : (b : Bool) (xs : List (Segment O)) (lent : ℕ) (r : List ℕ)
      → IfSome (last_of xs) (λ s. r ≡ take lent s.after)
      → IfSome (last_of (shown b xs lent).nodes) (λ s. r ≡ take lent s.after)
  value_at true xs lent r h = tt
  value_at false xs lent r h = h

  -- what a call on the chain keeps, the queue does, where it isn't marked as empty
  pub shown_keeps : (b : Bool) (q : Queued O) (old new : List (Segment O)) (lent : ℕ) → b ≡ false → shown b old lent ≡ q
      → KeepsTotals (held_by old) (held_by new) → KeepsTotals (held_by q.nodes) (held_by (if b then [] else new))
  shown_keeps true q old new lent e is k = absurd (false≢true (sym e))
  shown_keeps false q old new lent e is k =
      let P : Queued O → Type 0 = λ r. KeepsTotals (held_by r.nodes) (held_by new) in subst P is k

  pub shown_keeps_beside : (b : Bool) (a z : Numbers) (q : Queued O) (old new out : List (Segment O)) (lent : ℕ)
      → b ≡ false
      → shown b old lent ≡ q → KeepsTotalsBeside a z (held_by old) (held_by (new ++ out))
      → KeepsTotalsBeside a z (held_by q.nodes) (held_by ((if b then [] else new) ++ out))
  shown_keeps_beside true a z q old new out lent e is k = absurd (false≢true (sym e))
  shown_keeps_beside false a z q old new out lent e is k =
      let P : Queued O → Type 0 = λ r. KeepsTotalsBeside a z (held_by r.nodes) (held_by (new ++ out)) in subst P is k

  pub blank_made : (b : Bool) (a z : Numbers) (q : Queued O) (old new out : List (Segment O)) (lent : ℕ) (s : Segment
      O) → b ≡ true
      → shown b old lent ≡ q → out ≡ s ∷ [] → KeepsTotalsBeside a z [] (held s.share ∷ [])
      → KeepsTotalsBeside a z (held_by q.nodes) (held_by ((if b then [] else new) ++ out))
  blank_made true a z q old new out lent s e is made k = made_alone a z q.nodes out s (sym (ap (λ (r : Queued O).
      r.nodes) is)) made k
  blank_made false a z q old new out lent s e is made k = absurd (false≢true e)

  pub joined_keeps : (b : Bool) (q : Queued O) (old new other back : List (Segment O)) (lent : ℕ) → b ≡ false
      → shown b old lent ≡ q
      → KeepsTotals (held_by (old ++ other)) (held_by (new ++ back))
      → KeepsTotals (held_by (q.nodes ++ other)) (held_by ((if b then [] else new) ++ back))
  joined_keeps true q old new other back lent e is k = absurd (false≢true (sym e))
  joined_keeps false q old new other back lent e is k =
      let P : Queued O → Type 0 = λ r. KeepsTotals (held_by (r.nodes ++ other)) (held_by (new ++ back)) in subst P is k

  -- what is told of the last node
  pub tail_of : (n : ℕ) (o : Option (Segment O)) (s : Segment O) → o ≡ Some s → HasTailAt n o → HasTailAt n (Some s)
  tail_of n o s e h = let P : Option (Segment O) → Type 0 = λ z. HasTailAt n z in subst P e h

  pub of_tail : (n : ℕ) (o : Option (Segment O)) (s : Segment O) → o ≡ Some s → HasTailAt n (Some s) → HasTailAt n o
  of_tail n o s e h = let P : Option (Segment O) → Type 0 = λ z. HasTailAt n z in subst P (sym e) h

  -- the last node of a queue that isn't marked as empty
  pub last_shown : (b : Bool) (q : Queued O) (xs : List (Segment O)) (lent i : ℕ) (x : Segment O) → b ≡ false
      → shown b xs lent ≡ q
      → i + 1 ≡ length xs → slice_get xs i ≡ Some x → last_of q.nodes ≡ Some x
  last_shown true q xs lent i x e is size there = absurd (false≢true (sym e))
  last_shown false q xs lent i x e is size there =
      ap (λ (r : Queued O). last_of r.nodes) (sym is) ∙ last_there xs i x size there

  pub tail_shown : (b : Bool) (q : Queued O) (xs : List (Segment O)) (lent n : ℕ) → shown b xs lent ≡ q
      → HasTail n q.nodes
      → (b ≡ false) × HasTail n xs
  tail_shown true q xs lent n is h =
      let P : Queued O → Type 0 = λ r. HasTail n r.nodes in let none : ⊥ = subst P (sym is) h in absurd none
  tail_shown false q xs lent n is h = let P : Queued O → Type 0 = λ r. HasTail n r.nodes in (refl, subst P (sym is) h)

  less_tail : (n : ℕ) (o : Option (Segment O)) → HasTailAt n o → HasTailAt 0 o
  less_tail n None h = h
  less_tail n (Some s) h = (h.0, omega arith)

  pub some_tail : (n : ℕ) (xs : List (Segment O)) → HasTail n xs → HasTail 0 xs
  some_tail n xs h = less_tail n (last_of xs) h

  claim_offers : (xs : List (Segment O)) (lent : ℕ) → lent ≤ length (room_of (last_of xs))
      → IfSome (last_of (turned_last claims xs)) (λ s. IsAlone s.share × (lent ≤ length s.after))
  claim_offers [] lent h = tt
  claim_offers (s ∷ []) lent h = (refl, h)
  claim_offers (s ∷ t ∷ []) lent h = claim_offers (t ∷ []) lent h
  claim_offers (s ∷ t ∷ u ∷ us) lent h = claim_offers (t ∷ u ∷ us) lent h

  pub claimed_offer : (xs new : List (Segment O)) (lent : ℕ) → new ≡ turned_last claims xs
      → lent ≤ length (room_of (last_of xs))
      → IsOffered new lent
  claimed_offer xs new lent is h some =
      let P : List (Segment O) → Type 0 = λ ys. IfSome (last_of ys) (λ s. IsAlone s.share × (lent ≤ length s.after)) in
      subst P (sym is) (claim_offers xs lent h)

  last_append : (xs : List (Segment O)) (s : Segment O) → last_of (xs ++ s ∷ []) ≡ Some s
  last_append [] s = refl
  last_append (x ∷ []) s = refl
  last_append (x ∷ y ∷ ys) s = last_append (y ∷ ys) s

  filled_shown : (b : Bool) (xs ns : List (Segment O)) (lent : ℕ) → shown b xs lent ≡ queue_of ns → 0 < length ns
      → (b ≡ false) × (xs ≡ ns)
  filled_shown true xs ns lent e some =
      let none : length {A = Segment O} [] ≡ length ns = ap (λ (q : Queued O). length q.nodes) e in absurd (omega
      (arith, none, some))
  filled_shown false xs ns lent e some = (refl, ap (λ (q : Queued O). q.nodes) e)

  -- a queue that a node with room was added to
  pub added_on : (b : Bool) (xs old one : List (Segment O)) (s : Segment O) (l lent size : ℕ) (q : Queued O)
      → shown b xs l ≡ q
      → q ≡ queue_of (old ++ one) → one ≡ s ∷ [] → s ≡ between_rooms 0 size [] s.share → IsAlone s.share → lent ≤ size
      → (b ≡ false) × IsOffered xs lent
  added_on b xs old one s l lent size q is joined single room alone le =
      let grown : q ≡ queue_of (old ++ s ∷ []) = joined ∙ ap (λ ys. queue_of (old ++ ys)) single in
      let many = length-append old (s ∷ []) in
      let both = filled_shown b xs (old ++ s ∷ []) l (is ∙ grown) (omega (arith, many)) in
      let last : last_of xs ≡ Some s = ap last_of both.1 ∙ last_append old s in
      let after : length s.after ≡ size = ap (λ (t : Segment O). length t.after) room ∙ length-replicate size 0 in (
        both.0,
        λ some. some_if (λ t. IsAlone t.share × (lent ≤ length t.after)) (last_of xs) s last (
          alone,
          omega
              (arith, after, le),
        ),
      )

  gains_node : (a z : Numbers) (xs : List (Segment O)) (s : Segment O) → KeepsTotalsBeside a z [] (held s.share ∷ [])
      → KeepsTotalsBeside a z (held_by xs) (held_by (xs ++ s ∷ []))
  gains_node a z xs s k n h =
      let P : List (Stake O) → Type 0 = λ hs. Keeps hs (held_by (xs ++ s ∷ [])) n in
      let Q : List (Stake O) → Type 0 = λ hs. Keeps (held_by xs ++ []) hs n in
      subst P (append-nil (held_by xs)) (subst Q (sym (held_by-append xs (s ∷ [])))
      (keeps-append n (held_by xs) [] (held_by xs) (held s.share ∷ []) (keeps_same (held_by xs) n) (k n h)))

  pub added_keeps : (a z : Numbers) (now : Queued O) (out old one : List (Segment O)) (s : Segment O)
      → old ≡ now.nodes → one ≡ s ∷ []
      → out ≡ old ++ one → KeepsTotalsBeside a z [] (held s.share ∷ [])
      → KeepsTotalsBeside a z (held_by now.nodes) (held_by out)
  added_keeps a z now out old one s before single is k =
      let P : List (Segment O) → Type 0 = λ ys. KeepsTotalsBeside a z (held_by now.nodes) (held_by ys) in
      subst P (sym (is ∙ ap (λ ys. old ++ ys) single ∙ ap (λ ys. ys ++ s ∷ []) before)) (gains_node a z now.nodes s k)

  offer_size : (o : Option (Segment O)) (lent : ℕ) (r : List ℕ) → (o ≡ None → ⊥)
      → IfSome o (λ s. IsAlone s.share × (lent ≤ length s.after))
      → IfSome o (λ s. r ≡ take lent s.after) → length r ≡ lent
  offer_size None lent r some h is = absurd (some refl)
  offer_size (Some s) lent r some h is =
      let e : length r ≡ length (take lent s.after) = ap length is in
      let t = length-take lent s.after in
      let most = h.1 in
      omega (arith, e, t, most)

  pub offered_size : (xs : List (Segment O)) (lent : ℕ) (r : List ℕ) → 0 < length xs → 0 < lent → IsOffered xs lent
      → IfSome (last_of xs) (λ s. r ≡ take lent s.after) → length r ≡ lent
  offered_size xs lent r many some h is = offer_size (last_of xs) lent r (last_some xs many) (h some) is
