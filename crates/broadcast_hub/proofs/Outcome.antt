-- What a publication makes of the subscriptions.
use Rattle.std.proofs.Common.{◌≡◌, ◌⊎◌, ℕ, zero, suc, ◌+◌, ◌<◌, ◌≤◌, Bool, true, false, if◌then◌else◌, List, [], ◌∷◌, ◌++◌, length, take, drop, map, Option, Some, None, refl, sym, ap, subst, ◌∙◌, append_assoc, append-nil, length-append, length-take-le, take-append-drop, arith, inl, inr, slice_index_or, max}
use Rattle.std.specs.List.{AllZip}
use Rattle.std.proofs.lemmas.List.{drop_more, drop_at, get_or-take, get_or_default}
use Rattle.buffer_model.specs.Minted.{Numbers}
use Rattle.buffer_model.specs.Segment.{Segment}
use Rattle.storage.specs.declared.release.NoOwner.{NoOwner}
use Rattle.iobuf_chain.specs.Lists.{Each}
use Rattle.iobuf_chain.proofs.Copied.{each_map, each_append}
use Rattle.iobuf_chain.specs.Many.{joined}
use Rattle.sub_queue.specs.declared.items.Item.{Item}
use Rattle.sub_queue.specs.declared.items.Item.TheVariants.{One, Ended}
use Rattle.sub_queue.specs.Ends.{Fed}
use Rattle.sub_queue.specs.Sizes.{behind, weight_of, SentOne, KnowsSame, HasRoom}
use Rattle.frame_batch.specs.Batches.{Batched, room_of}
use Rattle.broadcast_hub.specs.declared.subscription.Standing.{Standing}
use Rattle.broadcast_hub.specs.declared.subscription.Standing.TheVariants.{Live, Leaving, Gone}
use Rattle.broadcast_hub.specs.Hubs.{Kept, Hubbed, is_live, is_here, live_in, here_in, AreKept}
use Rattle.broadcast_hub.specs.Publishing.{SendsBatch, SendsAs, Sends, Publishes, KnowsAsBefore, HasRoomIfLive, IsFirstFull, SomeIsFull, nodes_of, nodes_sent}
use Rattle.broadcast_hub.specs.Sending.{IsLeastAt, IsLeastOf, IsSent, AreSent, batches_in, SendsEach, IsShared, SharesOut}
use Rattle.broadcast_hub.proofs.Lists.{chain_of}
use Rattle.broadcast_hub.proofs.Kept.{Stays, kept_on, same_stays}

pub not_both : (b : Bool) → b ≡ true → b ≡ false → ⊥
not_both b t f = let P : Bool → Type 0 = λ c. elim c [ true ↦ Unit {0} | false ↦ ⊥ ] in subst P (sym t ∙ f) tt

-- many first batches, and the one behind them, are each as large as they have frames
made_rooms : (count : ℕ) (frames : List (List ℕ)) (bs : List Batched) → 1 ≤ count → count ≤ length frames → Each (λ b. b.frames ≡ take count frames) bs
    → Each (λ b. room_of b ≡ count) bs
made_rooms count frames bs some most all =
    each_map (λ b. b.frames ≡ take count frames) (λ b. room_of b ≡ count) bs
    (λ b is. (let size = ap length is ∙ length-take-le count frames most in omega (arith, size, some))) all

-- all batches that were made have the first frames
pub made_frames : (live count : ℕ) (old new : Numbers) (batch : Batched) (rest : Option Batched) (made : List Batched) → SharesOut live count old new batch rest made
    → Each (λ b. b.frames ≡ take count batch.frames) made
made_frames live count old new batch (Some rest) made s = s.0.frames
made_frames live count old new batch None made s =
    let P : List Batched → Type 0 = λ bs. Each (λ b. b.frames ≡ take count batch.frames) bs in
    subst P (sym s.3) (each_append (λ b. b.frames ≡ take count batch.frames) s.0 (record batch { chain = s.1 } ∷ []) s.2.frames
    (sym (take_whole count batch.frames (s.4)), tt))
  where
    take_whole : (n : ℕ) (xs : List (List ℕ)) → n ≡ length xs → take n xs ≡ xs
    take_whole n xs is = let e = take-append-drop n xs in short n xs is
      where
        short : (m : ℕ) (ys : List (List ℕ)) → m ≡ length ys → take m ys ≡ ys
        short zero [] e = refl
        short zero (y ∷ ys) e = absurd (omega (arith, e))
        short (suc m) [] e = absurd (omega (arith, e))
        short (suc m) (y ∷ ys) e = ap (λ zs. y ∷ zs) (short m ys (omega (arith, e)))

pub all_room : (live count : ℕ) (old new : Numbers) (batch : Batched) (rest : Option Batched) (made : List Batched) → SharesOut live count old new batch rest made
    → 1 ≤ count → count ≤ length batch.frames → Each (λ b. room_of b ≡ count) made
all_room live count old new batch rest made s some most =
    made_rooms count batch.frames made some most (made_frames live count old new batch rest made s)

-- room at each place is room of each
pub rooms_of : (n : ℕ) (ss : List Kept) → ((k : ℕ) (d : Kept) → k < length ss → HasRoomIfLive n (slice_index_or ss k d)) → Each (HasRoomIfLive n) ss
rooms_of n [] f = tt
rooms_of n (s ∷ ss) f = (f 0 s (omega arith), rooms_of n ss (λ k d lt. f (suc k) d (omega (arith, lt))))

-- one batch of the frames to each live one
sends_one : (st : Standing) (xs : List (List ℕ)) (b : Batched) (s t : Kept) → is_live st ≡ true → b.frames ≡ xs → t ≡ record s { feed = t.feed } → SentOne (One b) s.feed t.feed
    → KnowsSame s.feed t.feed → HasRoom room_of (length xs) s.feed → SendsAs st xs s t
sends_one Live xs b s t live is stays sent knows room = record {
  batch = b;
  frames_are = is;
  sent = sent;
  rest = stays;
  room = (let P : ℕ → Type 0 = λ n. HasRoom room_of (length xs) (record s.feed { known = n }) in subst P (sym knows) room);
}
sends_one (Leaving n e) xs b s t live is stays sent knows room = absurd (not_both false live refl)
sends_one (Gone n e) xs b s t live is stays sent knows room = absurd (not_both false live refl)

sends_none : (st : Standing) (xs : List (List ℕ)) (s t : Kept) → is_live st ≡ false → t ≡ s → SendsAs st xs s t
sends_none Live xs s t live is = absurd (not_both true refl live)
sends_none (Leaving n e) xs s t live is = is
sends_none (Gone n e) xs s t live is = is

pub sends_all : (xs : List (List ℕ)) (os : List (Option Batched)) (ss ts : List Kept) → AreSent os ss ts → Each (λ b. b.frames ≡ xs) (batches_in os)
    → Each (HasRoomIfLive (length xs)) ss → AllZip (Sends xs) ss ts
sends_all xs [] [] [] sent frames rooms = tt
sends_all xs (None ∷ os) (s ∷ ss) (t ∷ ts) sent frames rooms = (sends_none s.standing xs s t sent.0.0 sent.0.1, sends_all xs os ss ts sent.1 frames rooms.1)
sends_all xs (Some b ∷ os) (s ∷ ss) (t ∷ ts) sent frames rooms =
    let one = sent.0 in
    (sends_one s.standing xs b s t one.0 frames.0 one.1 one.2 one.3 (rooms.0 one.0), sends_all xs os ss ts sent.1 frames.1 rooms.1)
sends_all xs [] [] (t ∷ ts) sent frames rooms = absurd sent
sends_all xs [] (s ∷ ss) ts sent frames rooms = absurd sent
sends_all xs (o ∷ os) [] ts sent frames rooms = absurd sent
sends_all xs (o ∷ os) (s ∷ ss) [] sent frames rooms = absurd sent

knows_one : (o : Option Batched) (s t : Kept) → IsSent o s t → KnowsAsBefore s t
knows_one None s t is = ap (λ (z : Kept). z.feed.known) is.1
knows_one (Some b) s t is = is.3

pub knows_all : (os : List (Option Batched)) (ss ts : List Kept) → AreSent os ss ts → AllZip KnowsAsBefore ss ts
knows_all [] [] [] sent = tt
knows_all (o ∷ os) (s ∷ ss) (t ∷ ts) sent = (knows_one o s t sent.0, knows_all os ss ts sent.1)
knows_all [] [] (t ∷ ts) sent = absurd sent
knows_all [] (s ∷ ss) ts sent = absurd sent
knows_all (o ∷ os) [] ts sent = absurd sent
knows_all (o ∷ os) (s ∷ ss) [] sent = absurd sent

pub knows_same : (ss : List Kept) → AllZip KnowsAsBefore ss ss
knows_same [] = tt
knows_same (s ∷ ss) = (refl, knows_same ss)

abbrev one_if : Bool → ℕ
one_if b = if b then 1 else 0

stays_one : (o : Option Batched) (s t : Kept) → IsSent o s t → Stays s t
stays_one None s t is = same_stays s t is.1
stays_one (Some b) s t is = (ap (λ (z : Kept). z.id) is.1, (let same = ap (λ (z : Kept). one_if (is_here z.standing)) is.1 in omega (arith, same)))

stays_all : (os : List (Option Batched)) (ss ts : List Kept) → AreSent os ss ts → AllZip Stays ss ts
stays_all [] [] [] sent = tt
stays_all (o ∷ os) (s ∷ ss) (t ∷ ts) sent = (stays_one o s t sent.0, stays_all os ss ts sent.1)
stays_all [] [] (t ∷ ts) sent = absurd sent
stays_all [] (s ∷ ss) ts sent = absurd sent
stays_all (o ∷ os) [] ts sent = absurd sent
stays_all (o ∷ os) (s ∷ ss) [] sent = absurd sent

pub sent_kept : (next : ℕ) (bs : List Batched) (ss ts : List Kept) → SendsEach bs ss ts → AreKept next ss → AreKept next ts
sent_kept next bs ss ts s k = kept_on next ss ts (stays_all s.parts ss ts s.sent) k

pub sent_length : (os : List (Option Batched)) (ss ts : List Kept) → AreSent os ss ts → length ts ≡ length ss
sent_length [] [] [] sent = refl
sent_length (o ∷ os) (s ∷ ss) (t ∷ ts) sent = ap suc (sent_length os ss ts sent.1)
sent_length [] [] (t ∷ ts) sent = absurd sent
sent_length [] (s ∷ ss) ts sent = absurd sent
sent_length (o ∷ os) [] ts sent = absurd sent
sent_length (o ∷ os) (s ∷ ss) [] sent = absurd sent

-- frames, one at least, that were sent to each live one are published
pub publishes : (xs : List (List ℕ)) (bs : List Batched) (old new : Hubbed) → 0 < length xs → SendsEach bs old.kept new.kept → Each (λ b. b.frames ≡ xs) bs
    → Each (HasRoomIfLive (length xs)) old.kept → new ≡ record old { published = old.published + length xs; kept = new.kept } → Publishes xs old new
publishes [] bs old new some sent frames rooms is = absurd (omega (arith, some))
publishes (x ∷ xs) bs old new some sent frames rooms is =
    let P : List Batched → Type 0 = λ cs. Each (λ b. b.frames ≡ x ∷ xs) cs in
    (is, sends_all (x ∷ xs) sent.parts old.kept new.kept sent.sent (subst P (sym sent.batches) frames) rooms)

-- the nodes of the batches that were sent
nodes_one : (o : Option Batched) (s t : Kept) → IsSent o s t → nodes_of (drop (length s.feed.sent) t.feed.sent) ≡ joined (map chain_of (batches_in (o ∷ [])))
nodes_one None s t is =
    ap nodes_of (ap (λ (z : Kept). drop (length s.feed.sent) z.feed.sent) is.1 ∙ none s.feed.sent)
  where
    none : (xs : List (Item Batched)) → drop (length xs) xs ≡ []
    none [] = refl
    none (x ∷ xs) = none xs
nodes_one (Some b) s t is =
    ap nodes_of (ap (λ (f : Fed Batched). drop (length s.feed.sent) f.sent) is.2.0 ∙ drop_at s.feed.sent (One b ∷ []) (length s.feed.sent) refl)

joined_first : (o : Option Batched) (os : List (Option Batched))
    → joined (map chain_of (batches_in (o ∷ os))) ≡ joined (map chain_of (batches_in (o ∷ []))) ++ joined (map chain_of (batches_in os))
joined_first None os = refl
joined_first (Some b) os = ap (λ (c : List (Segment NoOwner)). c ++ joined (map chain_of (batches_in os))) (sym (append-nil b.chain))

nodes_all : (os : List (Option Batched)) (ss ts : List Kept) → AreSent os ss ts → nodes_sent ss ts ≡ joined (map chain_of (batches_in os))
nodes_all [] [] [] sent = refl
nodes_all (o ∷ os) (s ∷ ss) (t ∷ ts) sent =
    ap (λ (c : List (Segment NoOwner)). c ++ nodes_sent ss ts) (nodes_one o s t sent.0)
    ∙ ap (λ (c : List (Segment NoOwner)). joined (map chain_of (batches_in (o ∷ []))) ++ c) (nodes_all os ss ts sent.1)
    ∙ sym (joined_first o os)
nodes_all [] [] (t ∷ ts) sent = absurd sent
nodes_all [] (s ∷ ss) ts sent = absurd sent
nodes_all (o ∷ os) [] ts sent = absurd sent
nodes_all (o ∷ os) (s ∷ ss) [] sent = absurd sent

pub nodes_are : (bs : List Batched) (ss ts : List Kept) → SendsEach bs ss ts → nodes_sent ss ts ≡ joined (map chain_of bs)
nodes_are bs ss ts s = nodes_all s.parts ss ts s.sent ∙ ap (λ (cs : List Batched). joined (map chain_of cs)) s.batches

pub no_nodes : (ss : List Kept) → nodes_sent ss ss ≡ []
no_nodes [] = refl
no_nodes (s ∷ ss) = ap (λ (c : List (Segment NoOwner)). c ++ nodes_sent ss ss) (ap nodes_of (none s.feed.sent)) ∙ no_nodes ss
  where
    none : (xs : List (Item Batched)) → drop (length xs) xs ≡ []
    none [] = refl
    none (x ∷ xs) = none xs

pub take_whole : {X : Type 0} (n : ℕ) (xs : List X) → n ≡ length xs → take n xs ≡ xs
take_whole zero [] e = refl
take_whole zero (y ∷ ys) e = absurd (omega (arith, e))
take_whole (suc m) [] e = absurd (omega (arith, e))
take_whole (suc m) (y ∷ ys) e = ap (λ zs. y ∷ zs) (take_whole m ys (omega (arith, e)))

nobody_sent : (xs : List (List ℕ)) (ss : List Kept) → live_in ss ≡ 0 → AllZip (Sends xs) ss ss
nobody_sent xs [] none = tt
nobody_sent xs (s ∷ ss) none = (
  sends_none s.standing xs s s (off (is_live s.standing) (omega (arith, none))) refl,
  nobody_sent xs ss (omega (arith, none)),
)
  where
    off : (b : Bool) → one_if b ≡ 0 → b ≡ false
    off true e = absurd (omega (arith, e))
    off false e = refl

-- a publication to nobody, or of no frame
pub published_none : (n : ℕ) (xs : List (List ℕ)) (old new : Hubbed) → n ≡ length xs → (live_in old.kept ≡ 0) ⊎ (n ≡ 0)
    → new ≡ record old { published = old.published + n } → Publishes (take n xs) old new
published_none n xs old new is none made =
    let P : List (List ℕ) → Type 0 = λ ys. Publishes ys old new in subst P (sym (take_whole n xs is)) (go xs is)
  where
    go : (ys : List (List ℕ)) → n ≡ length ys → Publishes ys old new
    go [] e = made ∙ (λ i. record old { published = (let zero_is : old.published + n ≡ old.published = omega (arith, e) in zero_is) i })
    go (y ∷ ys) e = elim none [
      | inl nobody ↦ (
        made ∙ (λ i. record old { published = (let sum : old.published + n ≡ old.published + length (y ∷ ys) = omega (arith, e) in sum) i; kept = ap (λ (h : Hubbed). h.kept) (sym made) i }),
        (let P : List Kept → Type 0 = λ ts. AllZip (Sends (y ∷ ys)) old.kept ts in
            subst P (ap (λ (h : Hubbed). h.kept) (sym made)) (nobody_sent (y ∷ ys) old.kept nobody)),
      )
      | inr zero_is ↦ absurd (omega (arith, e, zero_is))
    ]

-- the first that is full stands between the others
pub first_full : (n id i : ℕ) (ss : List Kept) → i ≤ length ss → IsLeastAt n id ss i → IsFirstFull n id ss
first_full n id i [] most l = let within = l.within in absurd (omega (arith, most, within))
first_full n id i (s₀ ∷ ss₀) most l =
    let d : Kept = s₀ in
    let ss : List Kept = s₀ ∷ ss₀ in
    let k = l.before in
    let within = l.within in
    let there : k < length ss = omega (arith, most, within) in
    record {
      before = take k ss;
      full = slice_index_or ss k d;
      behind = drop (k + 1) ss;
      parts = sym (take-append-drop k ss) ∙ ap (λ ys. take k ss ++ ys) (drop_more ss k d there);
      id_is = l.id_is d;
      live = l.live d;
      lacks = (let just = l.just d in omega (arith, just));
      rooms = rooms_of (n + 1) (take k ss) (λ j e lt. (let size = length-take-le k ss (omega (arith, there)) in let below : j < k = omega (arith, lt, size) in
          let P : Kept → Type 0 = λ s. HasRoomIfLive (n + 1) s in subst P (sym (get_or-take k ss j e below)) (l.rooms j e below)));
    }

-- who is live is here
pub live_here : (ss : List Kept) → live_in ss ≤ here_in ss
live_here [] = omega arith
live_here (s ∷ ss) = let more = live_here ss in let one = each s.standing in omega (arith, more, one)
  where
    each : (st : Standing) → one_if (is_live st) ≤ one_if (is_here st)
    each Live = omega arith
    each (Leaving n e) = omega arith
    each (Gone n e) = omega arith

pub few_live : (next : ℕ) (ss ts : List Kept) → ss ≡ ts → AreKept next ss → live_in ts ≤ 256
few_live next ss ts is k = let P : List Kept → Type 0 = λ xs. live_in xs ≤ 256 in subst P is (let few = live_here ss in let most = k.1 in omega (arith, few, most))
