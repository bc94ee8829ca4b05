-- Nodes that become one.
use Rattle.std.specs.Prelude.{IfOk, Result, Ok, Err}
use Rattle.std.proofs.Common.{◌≡◌, ℕ, suc, zero, ◌+◌, ◌-◌, ◌<◌, ◌≤◌, List, [], ◌∷◌, ◌++◌, Option, Some, length, take, drop, replicate, refl, sym, ap, subst, ◌∙◌, append_assoc, arith, length-append, slice_get, slice_set}
use Rattle.std.proofs.lemmas.Option.{none-some}
use Rattle.std.proofs.lemmas.List.{append-nil, take-append-drop, take_all, take_at, drop_at, length-take, take-take, length-replicate}
use Rattle.buffer_model.specs.Share.{Share, own, claimed}
use Rattle.buffer_model.specs.Segment.{Segment, bytes_of, between_rooms, appended, rewritten, shared_as, trimmed_start, trimmed_end}
use Rattle.buffer_model.specs.Stake.{Stake, held, KeepsTotals, KeepsTotalsBeside}
use Rattle.buffer_model.specs.Minted.{Numbers, IsNew}
use Rattle.buffer_model.proofs.Totals.{keeps_same, keeps_equal, keeps-append, keeps_beside, keeps_made}
use Rattle.storage.specs.declared.back.Back.{Back}
use Rattle.storage.specs.Back.{stakes_in}
use Rattle.iobuf_chain.specs.Accounts.{held_by}
use Rattle.iobuf_chain.proofs.Lists.{take-set, drop-set, set-set}
use Rattle.iobuf_chain.proofs.Bytes.{bytes_of-append, sum_within, sum-cut}
use Rattle.iobuf_chain.proofs.Accounts.{swaps_nodes, same_nodes, held_by-append}
use Rattle.chain_unshare.specs.Backs.{HandBack}
use Rattle.chain_unshare.specs.Joins.{room_before, room_after, span_of, joined, Joins, Folds, IsFewest, Gathers}
use Rattle.chain_unshare.proofs.Splitting.{nothing_left, keeps_trans}
use Rattle.chain_unshare.proofs.Unsharing.{take_more}

-- three pieces written one behind the other
pub wrote_span : (h d t b₀ b₁ b₂ b₃ : List ℕ) (e : ℕ) → take (0 + length h) b₁ ≡ take 0 b₀ ++ h → take e b₂ ≡ take (length h) b₁ ++ d
    → take (e + length t) b₃ ≡ take e b₂ ++ t → length b₃ ≡ e + length t → b₃ ≡ h ++ (d ++ t)
wrote_span h d t b₀ b₁ b₂ b₃ e first second third size =
    let from : length h ≡ 0 + length h = omega arith in
    sym (take_all (e + length t) b₃ (omega (arith, size))) ∙ third ∙ ap (λ bs. bs ++ t) (second ∙ ap (λ bs. bs ++ d) (ap (λ (n : ℕ). take n b₁) from ∙ first))
    ∙ append_assoc h d t

-- a span that is cut at its rooms
cut_span : (b w a : List ℕ) → (take (length b) (b ++ (w ++ a)) ≡ b) × (take (length (drop (length b) (b ++ (w ++ a))) - length a) (drop (length b) (b ++ (w ++ a))) ≡ w)
    × (drop (length (drop (length b) (b ++ (w ++ a))) - length a) (drop (length b) (b ++ (w ++ a))) ≡ a)
cut_span b w a =
    let rest : drop (length b) (b ++ (w ++ a)) ≡ w ++ a = drop_at b (w ++ a) (length b) refl in
    let both = length-append w a in
    let size : length w ≡ length (drop (length b) (b ++ (w ++ a))) - length a = (let e = ap length rest in omega (arith, e, both)) in (
      take_at b (w ++ a) (length b) refl,
      ap (λ bs. take (length (drop (length b) (b ++ (w ++ a))) - length a) bs) rest ∙ take_at w a (length (drop (length b) (b ++ (w ++ a))) - length a) size,
      ap (λ bs. drop (length (drop (length b) (b ++ (w ++ a))) - length a) bs) rest ∙ drop_at w a (length (drop (length b) (b ++ (w ++ a))) - length a) size,
    )

module _ {O : Type 0} where
  pub room_before_first : (k : ℕ) (xs : List (Segment O)) (x : Segment O) → slice_get xs 0 ≡ Some x → 0 < k → room_before (take k xs) ≡ x.before
  room_before_first k [] x is h = absurd (none-some x is)
  room_before_first zero (y ∷ ys) x is h = absurd (omega arith)
  room_before_first (suc k) (y ∷ ys) x is h = let same : y ≡ x = cc is in ap (λ (t : Segment O). t.before) same

  after_at : (i : ℕ) (xs : List (Segment O)) (x : Segment O) → slice_get xs i ≡ Some x → room_after (take (suc i) xs) ≡ x.after
  after_at i [] x is = absurd (none-some x is)
  after_at zero (y ∷ ys) x is = let same : y ≡ x = cc is in ap (λ (t : Segment O). t.after) same
  after_at (suc i) (y ∷ []) x is = absurd (none-some x is)
  after_at (suc i) (y ∷ z ∷ zs) x is = after_at i (z ∷ zs) x is

  pub room_after_last : (k : ℕ) (xs : List (Segment O)) (x : Segment O) → slice_get xs (k - 1) ≡ Some x → 0 < k → room_after (take k xs) ≡ x.after
  room_after_last k xs x is h =
      let same : k ≡ suc (k - 1) = omega arith in
      ap (λ (n : ℕ). room_after (take n xs)) same ∙ after_at (k - 1) xs x is

  pub span_size : (xs : List (Segment O)) → length (span_of xs) ≡ length (room_before xs) + length (bytes_of xs) + length (room_after xs)
  span_size xs =
      let a = length-append (room_before xs) (bytes_of xs ++ room_after xs) in
      let b = length-append (bytes_of xs) (room_after xs) in
      omega (arith, a, b)

  -- the bytes of one node more
  pub bytes_more : (i : ℕ) (xs : List (Segment O)) (x : Segment O) → slice_get xs i ≡ Some x
      → bytes_of (take (i + 1) xs) ≡ bytes_of (take i xs) ++ x.window
  bytes_more i xs x is =
      ap (λ ys. bytes_of ys) (take_more i xs x is) ∙ bytes_of-append (take i xs) (x ∷ [])
      ∙ ap (λ bs. bytes_of (take i xs) ++ bs) (append-nil x.window)

  -- fewer first nodes have no more bytes
  pub sum_up : (i k : ℕ) (xs : List (Segment O)) → i ≤ k → length (bytes_of (take i xs)) ≤ length (bytes_of (take k xs))
  sum_up i k xs h =
      let within = sum_within i (take k xs) in
      let same = ap (λ ys. length (bytes_of ys)) (take-take i k xs h) in
      omega (arith, within, same)

  pub data_more : (i at end next : ℕ) (xs : List (Segment O)) (x : Segment O) (old mid new bytes : List ℕ) → slice_get xs i ≡ Some x
      → take end mid ≡ take at old ++ bytes_of (take i xs) → bytes ≡ x.window → take next new ≡ take end mid ++ bytes
      → take next new ≡ take at old ++ bytes_of (take (i + 1) xs)
  data_more i at end next xs x old mid new bytes is so e wrote =
      wrote ∙ ap (λ bs. bs ++ bytes) so ∙ append_assoc (take at old) (bytes_of (take i xs)) bytes
      ∙ ap (λ bs. take at old ++ bs) (ap (λ bs. bytes_of (take i xs) ++ bs) e ∙ sym (bytes_more i xs x is))

  -- the first nodes that have n bytes are the fewest, where those before the last have fewer
  pub fewest_at : (n i : ℕ) (xs : List (Segment O)) → length (bytes_of (take i xs)) < n → n ≤ length (bytes_of (take (i + 1) xs))
      → IsFewest n xs (take (i + 1) xs) (drop (i + 1) xs)
  fewest_at n i xs fewer enough = record {
    parts = sym (take-append-drop (i + 1) xs);
    enough = enough;
    fewest = λ k h.
        let size = length-take (i + 1) xs in
        let low : k ≤ i = omega (arith, size, h) in
        let same = ap (λ ys. length (bytes_of ys)) (take-take k (i + 1) xs (omega (arith, low))) in
        let most = sum_up k i xs low in
        omega (arith, same, most, fewer);
  }

  pub make_joined : (head tail size : ℕ) (xs : List (Segment O)) (n₀ n₁ n₂ n₃ n₄ : Segment O) → head ≡ length (room_before xs) → tail ≡ length (room_after xs)
      → n₀ ≡ between_rooms 0 size [] n₀.share → n₁ ≡ appended size n₀ → n₂ ≡ rewritten (span_of xs) (shared_as (claimed n₁.share) n₁)
      → n₃ ≡ trimmed_start head n₂ → n₄ ≡ trimmed_end tail n₃ → n₄ ≡ joined xs n₄.share
  make_joined head tail size xs n₀ n₁ n₂ n₃ n₄ h t made grown written front back =
      let b : List ℕ = room_before xs in
      let w : List ℕ = bytes_of xs in
      let a : List ℕ = room_after xs in
      let before₂ : n₂.before ≡ [] = ap (λ (s : Segment O). s.before) written ∙ ap (λ (s : Segment O). s.before) grown ∙ ap (λ (s : Segment O). s.before) made in
      let window₂ : n₂.window ≡ b ++ (w ++ a) = ap (λ (s : Segment O). s.window) written in
      let after₂ : n₂.after ≡ [] = ap (λ (s : Segment O). s.after) written ∙ ap (λ (s : Segment O). s.after) grown
      ∙ ap (λ (s : Segment O). drop size s.after) made
      ∙ nothing_left size (replicate size 0) (let e = length-replicate {A = ℕ} size 0 in omega (arith, e)) in
      let cut = cut_span b w a in
      let before₄ : n₄.before ≡ b
      = ap (λ (s : Segment O). s.before) back ∙ ap (λ (s : Segment O). s.before) front
      ∙ ap (λ bs. bs ++ take head n₂.window) before₂ ∙ ap (λ bs. take head bs) window₂ ∙ ap (λ (m : ℕ). take m (b ++ (w ++ a))) h ∙ cut.0 in
      let window₃ : n₃.window ≡ drop (length b) (b ++ (w ++ a))
      = ap (λ (s : Segment O). s.window) front ∙ ap (λ bs. drop head bs) window₂ ∙ ap (λ (m : ℕ). drop m (b ++ (w ++ a))) h in
      let after₃ : n₃.after ≡ [] = ap (λ (s : Segment O). s.after) front ∙ after₂ in
      let window₄ : n₄.window ≡ w
      = ap (λ (s : Segment O). s.window) back ∙ ap (λ bs. take (length bs - tail) bs) window₃
      ∙ ap (λ (m : ℕ). take (length (drop (length b) (b ++ (w ++ a))) - m) (drop (length b) (b ++ (w ++ a)))) t ∙ cut.1 in
      let after₄ : n₄.after ≡ a
      = ap (λ (s : Segment O). s.after) back ∙ ap (λ bs. drop (length bs - tail) bs ++ n₃.after) window₃
      ∙ ap (λ (m : ℕ). drop (length (drop (length b) (b ++ (w ++ a))) - m) (drop (length b) (b ++ (w ++ a))) ++ n₃.after) t
      ∙ ap (λ bs. bs ++ n₃.after) cut.2 ∙ ap (λ bs. a ++ bs) after₃ ∙ append-nil a in
      λ i. record { before = before₄ i; window = window₄ i; after = after₄ i; share = n₄.share }

  claimed_new : (old new : Numbers) (s : Share O) → IsNew old new own s → IsNew old new own (claimed s)
  claimed_new old new s is = record {
    number = is.number;
    minted = is.minted;
    weight = is.weight;
    absorbed = is.absorbed;
    way = is.way;
    alone = refl;
  }

  pub make_new : (old new : Numbers) (head tail size : ℕ) (span : List ℕ) (n₀ n₁ n₂ n₃ n₄ : Segment O) → IsNew old new own n₀.share
      → n₁ ≡ appended size n₀ → n₂ ≡ rewritten span (shared_as (claimed n₁.share) n₁)
      → n₃ ≡ trimmed_start head n₂ → n₄ ≡ trimmed_end tail n₃ → IsNew old new own n₄.share
  make_new old new head tail size span n₀ n₁ n₂ n₃ n₄ is grown written front back =
      let P : Share O → Type 0 = λ s. IsNew old new own s in
      let share₁ : n₁.share ≡ n₀.share = ap (λ (s : Segment O). s.share) grown in
      let share₄ : n₄.share ≡ claimed n₁.share
      = ap (λ (s : Segment O). s.share) back ∙ ap (λ (s : Segment O). s.share) front ∙ ap (λ (s : Segment O). s.share) written in
      subst P (sym share₄) (claimed_new old new n₁.share (subst P (sym share₁) is))

  pub grown_size : (size : ℕ) (n₀ n₁ : Segment O) → n₀ ≡ between_rooms 0 size [] n₀.share → n₁ ≡ appended size n₀ → length n₁.window ≡ size
  grown_size size n₀ n₁ made grown =
      let shows : n₁.window ≡ take size (replicate size 0)
      = ap (λ (s : Segment O). s.window) grown ∙ ap (λ (s : Segment O). s.window ++ take size s.after) made in
      let same = ap length shows in
      let most = length-take {A = ℕ} size (replicate size 0) in
      let all = length-replicate {A = ℕ} size 0 in
      omega (arith, same, most, all)

  pub joins_all : (old new : Numbers) (k : ℕ) (xs : List (Segment O)) (node : Segment O) → length xs ≤ k → Joins old new (take k xs) node → Joins old new xs node
  joins_all old new k xs node h is = let P : List (Segment O) → Type 0 = λ ys. Joins old new ys node in subst P (take_all k xs h) is

  -- the node takes the place of the first i + 1
  pub folded : (i k : ℕ) (xs mid cut after : List (Segment O)) (w node : Segment O) → k ≡ i + 1 → i < length xs → mid ≡ slice_set xs i w → cut ≡ drop i mid
      → after ≡ slice_set cut 0 node → after ≡ node ∷ drop k xs
  folded i k xs mid cut after w node e there away is put =
      put ∙ ap (λ ys. slice_set ys 0 node) (is ∙ ap (drop i) away ∙ drop-set i w xs there) ∙ ap (λ (n : ℕ). node ∷ drop n xs) (sym e)

  pub left_in_front : (i k : ℕ) (xs mid front : List (Segment O)) (w x : Segment O) → k ≡ i + 1 → slice_get xs i ≡ Some x → mid ≡ slice_set xs i w
      → front ≡ take i mid ++ x ∷ [] → front ≡ take k xs
  left_in_front i k xs mid front w x e at away is =
      is ∙ ap (λ ys. take i ys ++ x ∷ []) away ∙ ap (λ ys. ys ++ x ∷ []) (take-set i w xs) ∙ sym (take_more i xs x at)
      ∙ ap (λ (n : ℕ). take n xs) (sym e)

  pub folded_sum : (i k : ℕ) (old new : Numbers) (xs mid cut : List (Segment O)) (w node : Segment O) → k ≡ i + 1 → i < length xs → mid ≡ slice_set xs i w
      → cut ≡ drop i mid → Joins old new (take k xs) node → length (bytes_of (slice_set cut 0 node)) ≤ length (bytes_of xs)
  folded_sum i k old new xs mid cut w node e there away is joins =
      let same = ap (λ ys. length (bytes_of ys)) (folded i k xs mid cut (slice_set cut 0 node) w node e there away is refl) in
      let parts = length-append node.window (bytes_of (drop k xs)) in
      let shows : length node.window ≡ length (bytes_of (take k xs)) = ap (λ (s : Segment O). length s.window) joins.lists in
      let all = sum-cut k xs in
      omega (arith, same, parts, shows, all)

  set_own : (i : ℕ) (xs : List (Segment O)) (x : Segment O) → slice_get xs i ≡ Some x → slice_set xs i x ≡ xs
  set_own i [] x is = refl
  set_own zero (y ∷ ys) x is = let same : x ≡ y = cc is in ap (λ z. z ∷ ys) same
  set_own (suc i) (y ∷ ys) x is = ap (λ zs. y ∷ zs) (set_own i ys x is)

  -- a node is put back
  pub put_back : (i : ℕ) (xs mid cut after : List (Segment O)) (w x y : Segment O) → slice_get xs i ≡ Some x → mid ≡ slice_set xs i w → cut ≡ mid → y ≡ x
      → after ≡ slice_set cut i y → after ≡ xs
  put_back i xs mid cut after w x y at away same is put =
      put ∙ ap (λ ys. slice_set ys i y) (same ∙ away) ∙ set-set i w y xs ∙ ap (λ z. slice_set xs i z) is ∙ set_own i xs x at

  pub folds_bytes : (old new : Numbers) (before front rest after : List (Segment O)) → before ≡ front ++ rest → Folds old new front rest after
      → bytes_of after ≡ bytes_of before
  folds_bytes old new before front rest after parts is =
      let shows : is.node.window ≡ bytes_of front = ap (λ (s : Segment O). s.window) is.joins.lists in
      ap (λ ys. bytes_of ys) is.after_is ∙ ap (λ bs. bs ++ bytes_of rest) shows ∙ sym (bytes_of-append front rest) ∙ ap (λ ys. bytes_of ys) (sym parts)

  pub coalesces_bytes : (old new : Numbers) (before after : List (Segment O)) → Folds old new before [] after → bytes_of after ≡ bytes_of before
  coalesces_bytes old new before after is = folds_bytes old new before before [] after (sym (append-nil before)) is

  pub gathers_bytes : (runs : O → ℕ) (last : O → Option (List ℕ)) (n : ℕ) (old new : Numbers) (before after : List (Segment O)) (backs : List (Back O))
      → Gathers runs last n old new before after backs → bytes_of after ≡ bytes_of before
  gathers_bytes runs last n old new before after backs is = folds_bytes old new before is.front is.rest after is.fewest.parts is.folds

  -- the first node has all bytes of those that it stands for
  pub folds_first : (old new : Numbers) (front rest after : List (Segment O)) → Folds old new front rest after
      → length (bytes_of (take 1 after)) ≡ length (bytes_of front)
  folds_first old new front rest after is =
      let shows : is.node.window ≡ bytes_of front = ap (λ (s : Segment O). s.window) is.joins.lists in
      ap (λ ys. length (bytes_of (take 1 ys))) is.after_is ∙ ap length (append-nil is.node.window ∙ shows)

  pub folds_totals : (old new : Numbers) (before front rest after : List (Segment O)) (backs : List (Back O)) → before ≡ front ++ rest
      → Folds old new front rest after → KeepsTotals (held_by front) (stakes_in backs)
      → KeepsTotalsBeside old new (held_by before) (held_by after ++ stakes_in backs)
  folds_totals old new before front rest after backs parts is keeps n h =
      let all : List (Stake O) = held_by rest ++ stakes_in backs in
      keeps_trans n _ _ _ (same_nodes _ _ parts n)
      (keeps_trans n _ _ _ (swaps_nodes [] front rest n)
      (keeps_trans n _ _ _ (keeps_equal _ _ (held_by-append rest front) n)
      (keeps_trans n _ _ _ (keeps-append n (held_by rest) (held_by front) (held_by rest) (stakes_in backs) (keeps_same (held_by rest) n) (keeps n))
      (keeps_trans n _ _ _ (keeps_beside old new own is.node.share all all is.joins.storage (keeps_same all) n h)
      (keeps_equal _ _ (ap (λ ys. held_by ys ++ stakes_in backs) (sym is.after_is)) n)))))

  pub joined_totals : {E : Type 0} (old new : Numbers) (before : List (Segment O)) (r : Result (Segment O) E) → IfOk r (Joins old new before)
      → IfOk r (λ n. KeepsTotalsBeside old new [] (held n.share ∷ []))
  joined_totals old new before (Ok n) is = keeps_made old new own n.share is.storage
  joined_totals old new before (Err e) is = tt

  pub backs_of : (runs : O → ℕ) (last : O → Option (List ℕ)) (xs ys : List (Segment O)) (backs : List (Back O)) → xs ≡ ys → HandBack runs last xs backs
      → HandBack runs last ys backs
  backs_of runs last xs ys backs e is = let P : List (Segment O) → Type 0 = λ zs. HandBack runs last zs backs in subst P e is

  pub totals_of : (xs ys : List (Segment O)) (backs : List (Back O)) → xs ≡ ys → KeepsTotals (held_by xs) (stakes_in backs)
      → KeepsTotals (held_by ys) (stakes_in backs)
  totals_of xs ys backs e is = let P : List (Segment O) → Type 0 = λ zs. KeepsTotals (held_by zs) (stakes_in backs) in subst P e is
