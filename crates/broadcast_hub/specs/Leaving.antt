-- Subscriptions that leave, and a hub that is closed.
use Rattle.std.specs.Prelude.{◌≡◌, ◌⊎◌, ℕ, ◌+◌, ◌==◌, if◌then◌else◌, List, [], ◌∷◌, map, length, drop, ◌≤◌, Option, Some, None, IfSome}
use Rattle.sub_queue.specs.declared.items.End.{End}
use Rattle.sub_queue.specs.declared.items.Item.TheVariants.{Ended}
use Rattle.sub_queue.specs.Ends.{Fed, Tapped, end_of, Agrees}
use Rattle.sub_queue.specs.Sizes.{weight_of, Looked, SentOne, LacksRoom}
use Rattle.frame_batch.specs.Batches.{Batched, room_of}
use Rattle.broadcast_hub.specs.declared.subscription.Standing.{Standing}
use Rattle.broadcast_hub.specs.declared.subscription.Standing.TheVariants.{Live, Leaving, Gone}
use Rattle.broadcast_hub.specs.Hubs.{Kept, Hubbed, is_live, is_live_as}

-- who is live leaves, when so many frames were published
abbrev pub left : ℕ → End → Kept → Kept
left stop end s = if is_live s.standing then record s { standing = Leaving stop end } else s

-- who is live and has this id leaves
abbrev pub left_as : ℕ → ℕ → End → Kept → Kept
left_as id stop end s = if is_live_as id s then record s { standing = Leaving stop end } else s

-- a hub that one subscription leaves
abbrev pub parted : ℕ → End → Hubbed → Hubbed
parted id end hub = record hub { kept = map (left_as id hub.published end) hub.kept }

-- a hub that is closed: each live subscription leaves
abbrev pub shut : End → Hubbed → Hubbed
shut end hub = record hub { closed = Some end; kept = map (left hub.published end) hub.kept }

-- the end that waits was sent, and the subscription is gone
abbrev pub SendsEnd : ℕ → End → Kept → Kept → Type 0
SendsEnd stop end s t = (t ≡ record s { standing = Gone stop end; feed = t.feed }) × SentOne (Ended end) s.feed t.feed

-- the end still waits: there is no room for it, after a look
abbrev pub EndWaits : Kept → Kept → Type 0
EndWaits s t = (t ≡ record s { feed = t.feed }) × Looked s.feed t.feed × LacksRoom room_of 1 t.feed

-- an end that waits is sent or still waits, and all others stay
abbrev pub FlushesAs : Standing → Kept → Kept → Type 0
FlushesAs Live s t = t ≡ s
FlushesAs (Leaving stop end) s t = SendsEnd stop end s t ⊎ EndWaits s t
FlushesAs (Gone stop end) s t = t ≡ s

abbrev pub Flushes : Kept → Kept → Type 0
Flushes s t = FlushesAs s.standing s t

-- a feed that met its tap, which has taken so many items
abbrev pub met : ℕ → ℕ → Kept → Kept
met id taken s = if s.id == id then record s { feed = record s.feed { known = taken } } else s

-- all but the subscription with this id
abbrev pub without : ℕ → List Kept → List Kept
without id [] = []
without id (s ∷ ss) = if s.id == id then ss else s ∷ without id ss

-- what is kept after a meeting with a tap that took these items: a feed whose tap took the end leaves the hub
abbrev pub kept_after : ℕ → ℕ → Option End → List Kept → List Kept
kept_after id taken None ss = map (met id taken) ss
kept_after id taken (Some end) ss = without id ss

-- there is such a feed, and this is its tap
abbrev pub IsTapOf : Tapped Batched → Option (Fed Batched) → Type 0
IsTapOf tap None = ⊥
IsTapOf tap (Some feed) = feed.line ≡ tap.line

-- a meeting of a feed and its tap, between which so many items lie: what was taken and what the tap knew of are
-- beginnings of what was sent, the tap knows it all now, and what it has still to take is at most `cap` in size
pub record Meets (feed : Fed Batched) (old new : Tapped Batched) (left : ℕ) : Type 0 where
  pub agrees : Agrees feed old
  pub told : new ≡ record old { told = feed.sent }
  pub left_is : length old.taken + left ≡ length feed.sent
  pub held : weight_of room_of (drop (length old.taken) feed.sent) ≤ feed.cap
  pub ended : IfSome (end_of old.taken) (λ _. left ≡ 0)
