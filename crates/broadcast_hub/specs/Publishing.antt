-- What a publication makes of a hub.
use Rattle.std.specs.Prelude.{◌≡◌, ◌⊎◌, ℕ, ◌+◌, ◌<◌, ◌≤◌, Bool, true, false, List, [], ◌∷◌, ◌++◌, length, take, drop, Option, Some, None, Result, Ok, Err}
use Rattle.std.specs.List.{AllZip}
use Rattle.storage.specs.declared.release.NoOwner.{NoOwner}
use Rattle.storage.specs.declared.back.Back.{Back}
use Rattle.storage.specs.Back.{stakes_in}
use Rattle.buffer_model.specs.Segment.{Segment}
use Rattle.buffer_model.specs.Stake.{Stake}
use Rattle.iobuf_chain.specs.Accounts.{held_by}
use Rattle.iobuf_chain.specs.Lists.{Each}
use Rattle.iobuf_chain.specs.Shares.{Regains}
use Rattle.sub_queue.specs.declared.items.Item.{Item}
use Rattle.sub_queue.specs.declared.items.Item.TheVariants.{One, Ended}
use Rattle.sub_queue.specs.Ends.{Fed}
use Rattle.sub_queue.specs.Sizes.{Looked, SentOne, HasRoom, LacksRoom}
use Rattle.frame_batch.specs.Batches.{Batched, room_of}
use Rattle.broadcast_hub.specs.declared.subscription.Standing.{Standing}
use Rattle.broadcast_hub.specs.declared.subscription.Standing.TheVariants.{Live, Leaving, Gone}
use Rattle.broadcast_hub.specs.declared.answers.PubFault.{PubFault}
use Rattle.broadcast_hub.specs.declared.answers.PubFault.TheVariants.{Blocked, NoMemory}
use Rattle.broadcast_hub.specs.declared.answers.Published.{Published}
use Rattle.broadcast_hub.specs.Hubs.{Kept, Hubbed, is_live, live_in}

-- a batch of just these frames was sent, and had room; nothing else changed but that the feed may know more to be taken
pub record SendsBatch (frames : List (List ℕ)) (s t : Kept) : Type 0 where
  pub batch : Batched
  pub frames_are : batch.frames ≡ frames
  pub sent : SentOne (One batch) s.feed t.feed
  pub rest : t ≡ record s { feed = t.feed }
  pub room : HasRoom room_of (length frames) (record s.feed { known = t.feed.known })

-- a live one is sent them, and another stays
abbrev pub SendsAs : Standing → List (List ℕ) → Kept → Kept → Type 0
SendsAs Live frames s t = SendsBatch frames s t
SendsAs (Leaving stop end) frames s t = t ≡ s
SendsAs (Gone stop end) frames s t = t ≡ s

abbrev pub Sends : List (List ℕ) → Kept → Kept → Type 0
Sends frames s t = SendsAs s.standing frames s t

-- these frames were published: they are sent to each live subscription as one batch, and counted
abbrev pub Publishes : List (List ℕ) → Hubbed → Hubbed → Type 0
Publishes [] old new = new ≡ old
Publishes (x ∷ xs) old new =
    (new ≡ record old { published = old.published + length (x ∷ xs); kept = new.kept })
    × AllZip (Sends (x ∷ xs)) old.kept new.kept

-- the feed knows as much to be taken as before
abbrev pub KnowsAsBefore : Kept → Kept → Type 0
KnowsAsBefore s t = t.feed.known ≡ s.feed.known

-- nothing changed but that the feed of a live one may know more to be taken
abbrev pub LooksAs : Standing → Kept → Kept → Type 0
LooksAs Live s t = (t ≡ s) ⊎ ((t ≡ record s { feed = t.feed }) × Looked s.feed t.feed)
LooksAs (Leaving stop end) s t = t ≡ s
LooksAs (Gone stop end) s t = t ≡ s

abbrev pub Looks : Kept → Kept → Type 0
Looks s t = LooksAs s.standing s t

abbrev pub LooksAt : Hubbed → Hubbed → Type 0
LooksAt old new = (new ≡ record old { kept = new.kept }) × AllZip Looks old.kept new.kept

-- if it is live, it has room for so many frames by what is known
abbrev pub HasRoomIfLive : ℕ → Kept → Type 0
HasRoomIfLive n s = is_live s.standing ≡ true → HasRoom room_of n s.feed

-- the first live subscription that has no room for one frame more than so many has this id: it has room for just these
pub record IsFirstFull (n id : ℕ) (ss : List Kept) : Type 0 where
  pub before : List Kept
  pub full : Kept
  pub behind : List Kept
  pub parts : ss ≡ before ++ full ∷ behind
  pub id_is : full.id ≡ id
  pub live : is_live full.standing ≡ true
  pub lacks : LacksRoom room_of (n + 1) full.feed
  pub rooms : Each (HasRoomIfLive (n + 1)) before

-- some live subscription has no room for a frame
pub record SomeIsFull (ss : List Kept) : Type 0 where
  pub id : ℕ
  pub first : IsFirstFull 0 id ss

-- the nodes of the batches among items
abbrev pub nodes_of : List (Item Batched) → List (Segment NoOwner)
nodes_of [] = []
nodes_of (One b ∷ items) = b.chain ++ nodes_of items
nodes_of (Ended end ∷ items) = nodes_of items

-- the nodes of all batches that were sent between two moments
abbrev pub nodes_sent : List Kept → List Kept → List (Segment NoOwner)
nodes_sent [] ts = []
nodes_sent (s ∷ ss) [] = []
nodes_sent (s ∷ ss) (t ∷ ts) = nodes_of (drop (length s.feed.sent) t.feed.sent) ++ nodes_sent ss ts

-- what is left of a batch of which so many first frames were published
abbrev pub IsRest : ℕ → Batched → Option Batched → Type 0
IsRest count batch None = count ≡ length batch.frames
IsRest count batch (Some rest) = (count < length batch.frames) × (rest.frames ≡ drop count batch.frames)

-- the nodes of what is left
abbrev pub nodes_if : Option Batched → List (Segment NoOwner)
nodes_if None = []
nodes_if (Some b) = b.chain

abbrev pub stakes_returned : Option (List (Back NoOwner)) → List (Stake NoOwner)
stakes_returned None = []
stakes_returned (Some backs) = stakes_in backs

-- the batch itself comes back where nobody is live, and where it has no frame
abbrev pub ReturnsCome : List Kept → Batched → Option (List (Back NoOwner)) → Type 0
ReturnsCome ss batch None = (0 < live_in ss) × (0 < length batch.frames)
ReturnsCome ss batch (Some backs) = (live_in ss ≡ 0) ⊎ (batch.frames ≡ [])

-- what the caller has of storages afterwards: what is left and what was given back, or the batch
abbrev pub answered : Result Published PubFault → List (Stake NoOwner)
answered (Ok p) = held_by (nodes_if p.rest) ++ stakes_returned p.returns
answered (Err (Blocked id b)) = held_by b.chain
answered (Err (NoMemory b)) = held_by b.chain

-- why nothing was published: the first live subscription without room for a frame has this id, and the batch is as it
-- was; or memory was refused, and the batch has the weight again that it had
abbrev pub IsRefused : Batched → List Kept → PubFault → Type 0
IsRefused batch ss (Blocked id b) = (b ≡ batch) × IsFirstFull 0 id ss
IsRefused batch ss (NoMemory b) = (b.frames ≡ batch.frames) × AllZip Regains batch.chain b.chain
