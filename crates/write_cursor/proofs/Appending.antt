-- Bytes that come last.
use Rattle.std.proofs.Common.{◌≡◌, ℕ, suc, zero, ◌+◌, ◌-◌, ◌<◌, ◌≤◌, min, max, Bool, cond, List, [], ◌∷◌, ◌++◌, Some, length, take, drop, refl, sym, ap, subst, ◌∙◌, append_assoc, arith, inl, inr, length-append, length-drop, replicate, slice_get, slice_set}
use Rattle.std.proofs.lemmas.List.{append-nil, take_min, drop_min, length-take, length-replicate}
use Rattle.buffer_model.specs.Share.{IsWhole, own}
use Rattle.buffer_model.specs.Segment.{Segment, bytes_of}
use Rattle.buffer_model.specs.Stake.{held, KeepsTotals, KeepsTotalsBeside}
use Rattle.buffer_model.specs.Minted.{Numbers, NumbersOn, IsNew}
use Rattle.buffer_model.proofs.Totals.{keeps_same, keeps_equal, keeps-append, keeps_made, apart_first, apart_then}
use Rattle.buffer_model.proofs.Minted.{same_on, adds_on, on_then}
use Rattle.iobuf_chain.specs.Accounts.{held_by}
use Rattle.iobuf_chain.specs.Lists.{TurnsAt}
use Rattle.iobuf_chain.specs.Tails.{turned_last}
use Rattle.iobuf_chain.proofs.Accounts.{held_by-append}
use Rattle.iobuf_chain.proofs.Bytes.{sum-append}
use Rattle.chain_unshare.proofs.Unsharing.{whole_test, other_test}
use Rattle.chain_unshare.proofs.Splitting.{keeps_trans}
use Rattle.write_cursor.specs.Appended.{room_in, room_behind, grown_by, grown_behind, IsFilled, AddsNodes, Extends, Pushes, Ensures}
use Rattle.write_cursor.proofs.Writing.{rest_is}

pub get_before : {X : Type 0} (i : ℕ) (xs ys : List X) → i < length xs → slice_get (xs ++ ys) i ≡ slice_get xs i
get_before i [] ys h = absurd (omega arith)
get_before zero (x ∷ xs) ys h = refl
get_before (suc i) (x ∷ xs) ys h = get_before i xs ys (omega arith)

pub set_before : {X : Type 0} (i : ℕ) (xs ys : List X) (y : X) → i < length xs → slice_set (xs ++ ys) i y ≡ slice_set xs i y ++ ys
set_before i [] ys y h = absurd (omega arith)
set_before zero (x ∷ xs) ys y h = refl
set_before (suc i) (x ∷ xs) ys y h = ap (λ zs. x ∷ zs) (set_before i xs ys y (omega arith))

no_bytes : (bs : List ℕ) → length bs ≤ 0 → bs ≡ []
no_bytes [] h = refl
no_bytes (b ∷ bs) h = absurd (omega arith)

zeros : (n z : ℕ) → length (replicate n z) ≡ n
zeros n z = length-replicate n z

pub turned_there : {X : Type 0} (f : X → X) (i : ℕ) (xs : List X) (x : X) → suc i ≡ length xs → slice_get xs i ≡ Some x
    → slice_set xs i (f x) ≡ turned_last f xs
turned_there f i [] x e is = absurd (omega (arith, e))
turned_there f zero (y ∷ []) x e is = let same : x ≡ y = cc is in ap (λ z. f z ∷ []) same
turned_there f zero (y ∷ z ∷ zs) x e is = absurd (omega (arith, e))
turned_there f (suc i) (y ∷ []) x e is = absurd (omega (arith, e))
turned_there f (suc i) (y ∷ z ∷ zs) x e is = ap (λ ws. y ∷ ws) (turned_there f i (z ∷ zs) x (omega (arith, e)) is)

module _ {O : Type 0} where
  pub room_whole : (s : Segment O) → IsWhole s.share → room_in s ≡ length s.after
  room_whole s w = ap (λ (b : Bool). cond b (length s.after) 0) (whole_test s.share w)

  pub room_other : (s : Segment O) → (¬ IsWhole s.share) → room_in s ≡ 0
  room_other s w = ap (λ (b : Bool). cond b (length s.after) 0) (other_test s.share w)

  pub room_there : (i : ℕ) (xs : List (Segment O)) (x : Segment O) → suc i ≡ length xs → slice_get xs i ≡ Some x → room_behind xs ≡ room_in x
  room_there i [] x e is = absurd (omega (arith, e))
  room_there zero (y ∷ []) x e is = let same : y ≡ x = cc is in ap (λ z. room_in z) same
  room_there zero (y ∷ z ∷ zs) x e is = absurd (omega (arith, e))
  room_there (suc i) (y ∷ []) x e is = absurd (omega (arith, e))
  room_there (suc i) (y ∷ z ∷ zs) x e is = room_there i (z ∷ zs) x (omega (arith, e)) is

  room_last : (xs : List (Segment O)) (s : Segment O) → room_behind (xs ++ s ∷ []) ≡ room_in s
  room_last [] s = refl
  room_last (x ∷ []) s = refl
  room_last (x ∷ y ∷ ys) s = room_last (y ∷ ys) s

  pub grown_size : (bytes : List ℕ) (s : Segment O) → length (grown_by bytes s).window ≡ length s.window + length bytes
  grown_size [] s = omega arith
  grown_size (b ∷ bs) s = length-append s.window (b ∷ bs)

  pub grown_none : (bytes : List ℕ) (s : Segment O) → length bytes ≡ 0 → s ≡ grown_by bytes s
  grown_none [] s e = refl
  grown_none (b ∷ bs) s e = absurd (omega (arith, e))

  grown_keeps : (bytes : List ℕ) (s : Segment O) → KeepsTotals (held s.share ∷ []) (held (grown_by bytes s).share ∷ [])
  grown_keeps [] s = keeps_same (held s.share ∷ [])
  grown_keeps (b ∷ bs) s = λ n. record { total = refl; way = λ kind is. is }

  pub behind_keeps : (bytes : List ℕ) (xs : List (Segment O)) → KeepsTotals (held_by xs) (held_by (grown_behind bytes xs))
  behind_keeps bytes [] = keeps_same []
  behind_keeps bytes (x ∷ []) = grown_keeps bytes x
  behind_keeps bytes (x ∷ y ∷ ys) = λ n.
      keeps-append n (held x.share ∷ []) (held_by (y ∷ ys)) (held x.share ∷ []) _ (keeps_same (held x.share ∷ []) n) (behind_keeps bytes (y ∷ ys) n)

  pub filled_on : (size : ℕ) (old new : Numbers) (bytes : List ℕ) (s : Segment O) → IsFilled size old new bytes s → NumbersOn old new
  filled_on size old new bytes s is = adds_on 1 old new is.mint

  pub adds_number : (grow : ℕ) (old new : Numbers) (bytes : List ℕ) (more : List (Segment O)) → AddsNodes grow old new bytes more → NumbersOn old new
  adds_number grow old new bytes [] is = same_on old new is.1
  adds_number grow old new bytes (s ∷ ss) is =
      on_then old is.0 new (filled_on grow old is.0 (take grow bytes) s is.2) (adds_number grow is.0 new (drop grow bytes) ss is.3)

  pub adds_size : (grow : ℕ) (old new : Numbers) (bytes : List ℕ) (more : List (Segment O)) → AddsNodes grow old new bytes more
      → length (bytes_of more) ≡ length bytes
  adds_size grow old new bytes [] is = ap length (sym is.0)
  adds_size grow old new bytes (s ∷ ss) is =
      let a = length-append s.window (bytes_of ss) in
      let b : length s.window ≡ length (take grow bytes) = ap (λ (t : Segment O). length t.window) is.2.lists in
      let d = length-take grow bytes in
      let e = length-drop grow bytes in
      let more = adds_size grow is.0 new (drop grow bytes) ss is.3 in
      omega (arith, a, b, d, e, more)

  pub adds_keep : (grow : ℕ) (old new : Numbers) (bytes : List ℕ) (more : List (Segment O)) → AddsNodes grow old new bytes more
      → KeepsTotalsBeside old new [] (held_by more)
  adds_keep grow old new bytes [] is = λ z h. keeps_same [] z
  adds_keep grow old new bytes (s ∷ ss) is = λ z h.
      let first = filled_on grow old is.0 (take grow bytes) s is.2 in
      let next = adds_number grow is.0 new (drop grow bytes) ss is.3 in
      keeps-append z [] [] (held s.share ∷ []) (held_by ss) (keeps_made old is.0 own s.share is.2.storage z (apart_first old is.0 new z next h))
      (adds_keep grow is.0 new (drop grow bytes) ss is.3 z (apart_then old is.0 new z first h))

  -- one node, and those with the rest
  pub adds_first : (grow n : ℕ) (old mid new : Numbers) (bytes : List ℕ) (s : Segment O) (more : List (Segment O)) → n ≡ min grow (length bytes) → 0 < length bytes
      → IsFilled grow old mid (take n bytes) s → AddsNodes grow mid new (take (length bytes - n) (drop n bytes)) more → AddsNodes grow old new bytes (s ∷ more)
  adds_first grow n old mid new bytes s more few some filled adds =
      let one : take n bytes ≡ take grow bytes = ap (λ (m : ℕ). take m bytes) few ∙ take_min grow bytes in
      let two : take (length bytes - n) (drop n bytes) ≡ drop grow bytes = rest_is bytes n ∙ ap (λ (m : ℕ). drop m bytes) few ∙ drop_min grow bytes in
      let P : List ℕ → Type 0 = λ bs. IsFilled grow old mid bs s in
      let Q : List ℕ → Type 0 = λ bs. AddsNodes grow mid new bs more in
      (mid, some, subst P one filled, subst Q two adds)

  pub adds_next : (grow n : ℕ) (first old mid new : Numbers) (all bytes : List ℕ) (s : Segment O) (chain longer more : List (Segment O))
      → ((m : Numbers) (ss : List (Segment O)) → AddsNodes grow old m bytes ss → AddsNodes grow first m all (chain ++ ss))
      → n ≡ min grow (length bytes) → 0 < length bytes → IsFilled grow old mid (take n bytes) s → longer ≡ chain ++ s ∷ []
      → AddsNodes grow mid new (take (length bytes - n) (drop n bytes)) more → AddsNodes grow first new all (longer ++ more)
  adds_next grow n first old mid new all bytes s chain longer more then_all few some filled is adds =
      let P : List (Segment O) → Type 0 = λ ss. AddsNodes grow first new all ss in
      subst P (sym (ap (λ ss. ss ++ more) is ∙ append_assoc chain (s ∷ []) more))
      (then_all new (s ∷ more) (adds_first grow n old mid new bytes s more few some filled adds))

  pub adds_end : (grow : ℕ) (first old : Numbers) (all bytes : List ℕ) (chain : List (Segment O))
      → ((m : Numbers) (ss : List (Segment O)) → AddsNodes grow old m bytes ss → AddsNodes grow first m all (chain ++ ss)) → length bytes ≤ 0
      → AddsNodes grow first old all chain
  adds_end grow first old all bytes chain then_all none =
      let P : List (Segment O) → Type 0 = λ ss. AddsNodes grow first old all ss in
      subst P (append-nil chain) (then_all old [] (no_bytes bytes none, refl))

  -- what was pushed
  pub pushes : (grow last n : ℕ) (old new : Numbers) (bytes : List ℕ) (before longer after : List (Segment O)) (node : Segment O)
      → suc last ≡ length before → slice_get before last ≡ Some node → n ≡ min (room_behind before) (length bytes)
      → Extends grow old new (take (length bytes - n) (drop n bytes)) before longer → TurnsAt (grown_by (take n bytes)) last longer after
      → Pushes grow old new bytes before after
  pushes grow last n old new bytes before longer after node size there few extends turns =
      let one : take n bytes ≡ take (room_behind before) bytes = ap (λ (m : ℕ). take m bytes) few ∙ take_min (room_behind before) bytes in
      let two : take (length bytes - n) (drop n bytes) ≡ drop (room_behind before) bytes
      = rest_is bytes n ∙ ap (λ (m : ℕ). drop m bytes) few ∙ drop_min (room_behind before) bytes in
      let P : List ℕ → Type 0 = λ bs. AddsNodes grow old new bs extends.more in
      let same : turns.item ≡ node
      = let at : Some turns.item ≡ Some node
      = sym turns.there ∙ ap (λ xs. slice_get xs last) extends.after_is ∙ get_before last before extends.more (omega (arith, size)) ∙ there in cc at in
      record {
        more = extends.more;
        added = subst P two extends.added;
        after_is = turns.turned ∙ ap (λ xs. slice_set xs last (grown_by (take n bytes) turns.item)) extends.after_is
            ∙ set_before last before extends.more (grown_by (take n bytes) turns.item) (omega (arith, size))
            ∙ ap (λ z. slice_set before last (grown_by (take n bytes) z) ++ extends.more) same
            ∙ ap (λ bs. slice_set before last (grown_by bs node) ++ extends.more) one
            ∙ ap (λ xs. xs ++ extends.more) (turned_there (grown_by (take (room_behind before) bytes)) last before node size there);
      }

  pub pushes_keep : (grow : ℕ) (old new : Numbers) (bytes : List ℕ) (before after : List (Segment O)) → Pushes grow old new bytes before after
      → KeepsTotalsBeside old new (held_by before) (held_by after)
  pushes_keep grow old new bytes before after is z h =
      let room : ℕ = room_behind before in
      let grown : List (Segment O) = grown_behind (take room bytes) before in
      keeps_trans z _ _ _ (keeps_equal _ _ (sym (append-nil (held_by before))) z)
      (keeps_trans z _ _ _
      (keeps-append z (held_by before) [] (held_by grown) (held_by is.more) (behind_keeps (take room bytes) before z) (adds_keep grow old new (drop room bytes) is.more is.added z h))
      (keeps_equal _ _ (sym (held_by-append grown is.more) ∙ ap (λ xs. held_by xs) (sym is.after_is)) z))

  pub one_keeps : (old new : Numbers) (before after : List (Segment O)) (s : Segment O) → after ≡ before ++ s ∷ [] → IsNew old new own s.share
      → KeepsTotalsBeside old new (held_by before) (held_by after)
  one_keeps old new before after s is made z h =
      keeps_trans z _ _ _ (keeps_equal _ _ (sym (append-nil (held_by before))) z)
      (keeps_trans z _ _ _
      (keeps-append z (held_by before) [] (held_by before) (held s.share ∷ []) (keeps_same (held_by before) z) (keeps_made old new own s.share made z h))
      (keeps_equal _ _ (sym (held_by-append before (s ∷ [])) ∙ ap (λ xs. held_by xs) (sym is)) z))

  -- room that was made sure of
  pub ensures_room : (n grow : ℕ) (old new : Numbers) (before after : List (Segment O)) → Ensures n grow old new before after → n ≤ room_behind after
  ensures_room n grow old new before after (inl is) = let e = ap (λ xs. room_behind xs) is.1 in let r = is.0 in omega (arith, e, r)
  ensures_room n grow old new before after (inr is) =
      let s : Segment O = is.1 in
      let w = is.3.storage.weight in
      let a = is.3.storage.absorbed in
      let whole : IsWhole s.share = omega (arith, w, a) in
      let e = ap (λ xs. room_behind xs) is.2 ∙ room_last before s ∙ room_whole s whole in
      let long : length s.after ≡ max n grow = ap (λ (t : Segment O). length t.after) is.3.lists ∙ zeros (max n grow - 0) 0 ∙ (let z : max n grow - 0 ≡ max n grow = omega arith in z) in
      omega (arith, e, long)

  pub ensures_size : (n grow : ℕ) (old new : Numbers) (before after : List (Segment O)) → Ensures n grow old new before after
      → length (bytes_of after) ≡ length (bytes_of before)
  ensures_size n grow old new before after (inl is) = ap (λ xs. length (bytes_of xs)) is.1
  ensures_size n grow old new before after (inr is) =
      let one = sum-append before (is.1 ∷ []) in
      let two = ap (λ xs. length (bytes_of xs)) is.2 in
      let three = ap (λ (t : Segment O). length t.window) is.3.lists in
      let four = length-append is.1.window [] in
      omega (arith, one, two, three, four)

  pub put_after : (last : ℕ) (bytes : List ℕ) (ready after : List (Segment O)) (node : Segment O) → suc last ≡ length ready → slice_get ready last ≡ Some node
      → TurnsAt (grown_by bytes) last ready after → after ≡ grown_behind bytes ready
  put_after last bytes ready after node size there turns =
      let same : turns.item ≡ node = cc (turns.there, there) in
      turns.turned ∙ ap (λ z. slice_set ready last (grown_by bytes z)) same ∙ turned_there (grown_by bytes) last ready node size there

  pub put_keeps : (grow : ℕ) (old new : Numbers) (bytes : List ℕ) (before ready after : List (Segment O)) → KeepsTotalsBeside old new (held_by before) (held_by ready)
      → after ≡ grown_behind bytes ready → KeepsTotalsBeside old new (held_by before) (held_by after)
  put_keeps grow old new bytes before ready after keeps is z h =
      keeps_trans z _ _ _ (keeps z h) (keeps_trans z _ _ _ (behind_keeps bytes ready z) (keeps_equal _ _ (ap (λ xs. held_by xs) (sym is)) z))
