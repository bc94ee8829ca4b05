-- What contracts see of a hub.
use Rattle.std.specs.Prelude.{◌≡◌, ℕ, suc, ◌+◌, ◌<◌, ◌≤◌, ◌==◌, ◌&&◌, Bool, true, false, not, if◌then◌else◌, List, [], ◌∷◌, ◌++◌, Option, Some, None, ⊤}
use Rattle.sub_queue.specs.declared.items.End.{End}
use Rattle.sub_queue.specs.Ends.{Fed, end_of}
use Rattle.frame_batch.specs.Batches.{Batched}
use Rattle.broadcast_hub.specs.declared.subscription.Standing.{Standing}
use Rattle.broadcast_hub.specs.declared.subscription.Standing.TheVariants.{Live, Leaving, Gone}

-- a subscription that a hub keeps: its id, how many frames were published when it came, how it stands, and its feed
pub record Kept : Type 0 where
  pub id : ℕ
  pub first : ℕ
  pub standing : Standing
  pub feed : Fed Batched

-- a hub: how many frames it published, the end with which it was closed, the id of the next subscription, and the
-- subscriptions that it keeps
pub record Hubbed : Type 0 where
  pub published : ℕ
  pub closed : Option End
  pub next : ℕ
  pub kept : List Kept

abbrev pub new_hub : Hubbed
new_hub = record { published = 0; closed = None; next = 0; kept = [] }

abbrev pub is_live : Standing → Bool
is_live Live = true
is_live (Leaving stop end) = false
is_live (Gone stop end) = false

abbrev pub is_leaving : Standing → Bool
is_leaving Live = false
is_leaving (Leaving stop end) = true
is_leaving (Gone stop end) = false

-- it is live or leaving
abbrev pub is_here : Standing → Bool
is_here Live = true
is_here (Leaving stop end) = true
is_here (Gone stop end) = false

-- the end that was sent, if it was
abbrev pub end_sent : Standing → Option End
end_sent Live = None
end_sent (Leaving stop end) = None
end_sent (Gone stop end) = Some end

-- what a feed was sent agrees with how its subscription stands
abbrev pub Suits : Standing → Fed Batched → Type 0
Suits standing feed = (end_of feed.sent ≡ end_sent standing) × (1 ≤ feed.cap)

-- how many of the subscriptions stand so
abbrev pub how_many : (Standing → Bool) → List Kept → ℕ
how_many so [] = 0
how_many so (s ∷ ss) = (if so s.standing then 1 else 0) + how_many so ss

abbrev pub live_in : List Kept → ℕ
live_in ss = how_many is_live ss

abbrev pub leaving_in : List Kept → ℕ
leaving_in ss = how_many is_leaving ss

abbrev pub here_in : List Kept → ℕ
here_in ss = how_many is_here ss

abbrev pub most_here : ℕ
most_here = 256

-- ids rise, from this one up to and without another
abbrev pub IdsRise : ℕ → ℕ → List Kept → Type 0
IdsRise low next [] = low ≤ next
IdsRise low next (s ∷ ss) = (low ≤ s.id) × IdsRise (suc s.id) next ss

-- what holds of the subscriptions that a hub keeps: their ids rise and are below the next one, and so many are live or
-- leaving at most
abbrev pub AreKept : ℕ → List Kept → Type 0
AreKept next ss = IdsRise 0 next ss × (here_in ss ≤ most_here)

-- it has this id, and is live
abbrev pub is_live_as : ℕ → Kept → Bool
is_live_as id s = is_live s.standing && (s.id == id)

-- one of them is live and has this id
abbrev pub has_live : ℕ → List Kept → Bool
has_live id [] = false
has_live id (s ∷ ss) = if is_live_as id s then true else has_live id ss

-- the feed of the subscription with this id
abbrev pub feed_of : ℕ → List Kept → Option (Fed Batched)
feed_of id [] = None
feed_of id (s ∷ ss) = if s.id == id then Some s.feed else feed_of id ss

-- a subscription that came when so many frames were published
abbrev pub subscribed : ℕ → ℕ → Fed Batched → Kept
subscribed id first feed = record { id = id; first = first; standing = Live; feed = feed }

-- a hub to which somebody subscribed
abbrev pub joined : Fed Batched → Hubbed → Hubbed
joined feed hub = record hub { next = hub.next + 1; kept = hub.kept ++ subscribed hub.next hub.published feed ∷ [] }
