-- Places in the list of subscriptions, and what goes to each of them.
use Rattle.std.specs.Prelude.{◌≡◌, ◌⊎◌, ℕ, ◌+◌, ◌<◌, ◌≤◌, ◌==◌, Bool, true, false, List, [], ◌∷◌, ◌++◌, length, take, drop, map, slice_index_or, Option, Some, None}
use Rattle.storage.specs.declared.release.NoOwner.{NoOwner}
use Rattle.buffer_model.specs.Segment.{Segment}
use Rattle.buffer_model.specs.Minted.{Numbers}
use Rattle.iobuf_chain.specs.Lists.{Each}
use Rattle.iobuf_chain.specs.Many.{SharesMany}
use Rattle.sub_queue.specs.declared.items.Item.TheVariants.{One}
use Rattle.sub_queue.specs.Ends.{Fed}
use Rattle.sub_queue.specs.Sizes.{behind, SentOne, KnowsSame, HasRoom}
use Rattle.frame_batch.specs.Batches.{Batched, room_of}
use Rattle.broadcast_hub.specs.Hubs.{Kept, is_live, live_in, feed_of}
use Rattle.broadcast_hub.specs.Publishing.{HasRoomIfLive}

-- the subscription of this id stands at a place, with these before it and behind it
pub record StandsAt (id i : ℕ) (ss : List Kept) : Type 0 where
  pub before : List Kept
  pub sub : Kept
  pub behind : List Kept
  pub parts : ss ≡ before ++ sub ∷ behind
  pub place : length before ≡ i
  pub id_is : sub.id ≡ id
  pub none : feed_of id before ≡ None

-- where the subscription of this id stands, if it is kept
abbrev pub IsAt : ℕ → List Kept → Option ℕ → Type 0
IsAt id ss None = feed_of id ss ≡ None
IsAt id ss (Some i) = StandsAt id i ss

-- a change of each of the first so many
pub record Through (R : Kept → Kept → Type 0) (i : ℕ) (old new : List Kept) : Type 0 where
  pub places : length new ≡ length old
  pub done : (k : ℕ) (d : Kept) → k < i → R (slice_index_or old k d) (slice_index_or new k d)
  pub rest : (k : ℕ) (d : Kept) → i ≤ k → slice_index_or new k d ≡ slice_index_or old k d

-- the first of them that is live and has room for just so many frames
pub record IsLeastAt (n id : ℕ) (ss : List Kept) (i : ℕ) : Type 0 where
  pub before : ℕ
  pub within : before < i
  pub id_is : (d : Kept) → (slice_index_or ss before d).id ≡ id
  pub live : (d : Kept) → is_live (slice_index_or ss before d).standing ≡ true
  pub just : (d : Kept) → behind room_of (slice_index_or ss before d).feed + n ≡ (slice_index_or ss before d).feed.cap
  pub rooms : (k : ℕ) (d : Kept) → k < before → HasRoomIfLive (n + 1) (slice_index_or ss k d)

-- each live one of the first so many has room for n frames, `most` at most; where that is less, the first that has room
-- for no more has this id
pub record IsLeastOf (most n id : ℕ) (ss : List Kept) (i : ℕ) : Type 0 where
  pub most_is : n ≤ most
  pub fits : (k : ℕ) (d : Kept) → k < i → HasRoomIfLive n (slice_index_or ss k d)
  pub least : n < most → IsLeastAt n id ss i

-- a batch goes to a live one, nothing to another
abbrev pub IsSent : Option Batched → Kept → Kept → Type 0
IsSent None s t = (is_live s.standing ≡ false) × (t ≡ s)
IsSent (Some b) s t =
    (is_live s.standing ≡ true) × (t ≡ record s { feed = t.feed })
    × SentOne (One b) s.feed t.feed × KnowsSame s.feed t.feed

-- what goes to each
abbrev pub AreSent : List (Option Batched) → List Kept → List Kept → Type 0
AreSent [] [] [] = Unit {0}
AreSent (o ∷ os) (s ∷ ss) (t ∷ ts) = IsSent o s t × AreSent os ss ts
AreSent _ _ _ = ⊥

-- the batches among what goes to each
abbrev pub batches_in : List (Option Batched) → List Batched
batches_in [] = []
batches_in (None ∷ os) = batches_in os
batches_in (Some b ∷ os) = b ∷ batches_in os

-- these batches were sent, one to each live one, in order
pub record SendsEach (bs : List Batched) (old new : List Kept) : Type 0 where
  pub parts : List (Option Batched)
  pub sent : AreSent parts old new
  pub batches : batches_in parts ≡ bs

-- from place i on, the last of the batches were sent, and those that are left are as many as are live before
pub record SendsFrom (i : ℕ) (all left : List Batched) (old new : List Kept) : Type 0 where
  pub places : length new ≡ length old
  pub sent : List Batched
  pub parts : all ≡ left ++ sent
  pub behind_is : SendsEach sent (drop i old) (drop i new)
  pub rest : (k : ℕ) (d : Kept) → k < i → slice_index_or new k d ≡ slice_index_or old k d
  pub count : live_in (take i old) ≡ length left

-- the last of some batches goes to a subscription, if that is live
pub record IsNextSent (all left : List Batched) (s t : Kept) : Type 0 where
  pub part : Option Batched
  pub sent : IsSent part s t
  pub batches : all ≡ left ++ batches_in (part ∷ [])

-- a batch was shared some times, each share with its first `count` frames; afterwards it has these nodes
pub record IsShared (count : ℕ) (old new : Numbers) (batch : Batched) (shares : List Batched)
    (after : List (Segment NoOwner)) : Type 0 where
  pub chains : SharesMany old new batch.chain (map (λ b. b.chain) shares) after
  pub frames : Each (λ b. b.frames ≡ take count batch.frames) shares

-- so many batches of the first frames of a batch, made of its chain: all are shares of that; or, where no frame is
-- left, the last is the batch itself
abbrev pub SharesOut : ℕ → ℕ → Numbers → Numbers → Batched → Option Batched → List Batched → Type 0
SharesOut live count old new batch None made =
    (shares : List Batched) × (after : List (Segment NoOwner)) × IsShared count old new batch shares after
    × (made ≡ shares ++ record batch { chain = after } ∷ []) × (count ≡ length batch.frames)
    × (length made ≡ live)
SharesOut live count old new batch (Some rest) made =
    IsShared count old new batch made rest.chain × (rest.frames ≡ drop count batch.frames)
    × (count < length batch.frames) × (length made ≡ live)
