-- The hub as a machine: what each event makes of what was published and of each subscription's queue.
use Rattle.std.specs.Prelude.{ℕ, zero, suc, ◌+◌, ◌-◌, ◌&&◌, Bool, true, false, not, nat_lt, if◌then◌else◌, List, [], ◌∷◌, ◌++◌, length, map, take, drop, Option, Some, None}
use Rattle.sub_queue.specs.declared.items.End.{End}
use Rattle.sub_queue.specs.declared.items.Item.{Item}
use Rattle.sub_queue.specs.declared.items.Item.TheVariants.{One, Ended}

-- how a subscription stands: it is sent what is published; it left when so many frames were published, and this end
-- is still to be sent; the end was sent, too
pub data Standing : Type 0 where
  live : Standing
  leaving : ℕ → End → Standing
  gone : ℕ → End → Standing

-- a subscription: how many frames were published when it came, how it stands, the most that its queue holds, what was
-- taken from the queue, and what this holds
pub record Subscription (X : Type 0) : Type 0 where
  pub first : ℕ
  pub standing : Standing
  pub cap : ℕ
  pub taken : List (Item X)
  pub held : List (Item X)

-- a hub: what was published, the end with which it was closed, and its subscriptions by id
pub record Hub (X : Type 0) : Type 0 where
  pub published : List X
  pub closed : Option End
  pub subscriptions : List (Subscription X)

-- a frame is published; somebody subscribes, with a queue that holds so many items; a subscription leaves with this
-- end; the hub is closed with this end; the ends that wait are sent; an item is taken from a subscription's queue
pub data Event (X : Type 0) : Type 0 where
  publish : X → Event X
  subscribe : ℕ → Event X
  unsubscribe : ℕ → End → Event X
  close : End → Event X
  flush : Event X
  take_next : ℕ → Event X

abbrev pub most_subscriptions : ℕ
most_subscriptions = 256

abbrev pub is_live : Standing → Bool
is_live live = true
is_live (leaving k e) = false
is_live (gone k e) = false

abbrev pub is_gone : Standing → Bool
is_gone live = false
is_gone (leaving k e) = false
is_gone (gone k e) = true

-- the same id in a list with one more in front
abbrev pub next_id : Option ℕ → Option ℕ
next_id None = None
next_id (Some i) = Some (suc i)

module _ {X : Type 0} where
  abbrev pub has_room : Subscription X → Bool
  has_room s = nat_lt (length s.held) s.cap

  -- an item goes into the queue
  abbrev pub sent_item : Item X → Subscription X → Subscription X
  sent_item x s = record s { held = s.held ++ x ∷ [] }

  -- a frame goes to who is live
  abbrev pub sent_frame : X → Subscription X → Subscription X
  sent_frame x s = if is_live s.standing then sent_item (One x) s else s

  -- who is live leaves, when so many frames were published
  abbrev pub left : ℕ → End → Subscription X → Subscription X
  left n e s = if is_live s.standing then record s { standing = leaving n e } else s

  -- the end that waits goes into the queue, where that has room
  abbrev pub flushed_as : Standing → Subscription X → Subscription X
  flushed_as live s = s
  flushed_as (gone k e) s = s
  flushed_as (leaving k e) s =
      if has_room s then record s { standing = gone k e; held = s.held ++ Ended e ∷ [] } else s

  abbrev pub flushed : Subscription X → Subscription X
  flushed s = flushed_as s.standing s

  -- the first item that is held is taken
  abbrev pub took_of : List (Item X) → Subscription X → Subscription X
  took_of [] s = s
  took_of (x ∷ xs) s = record s { taken = s.taken ++ x ∷ []; held = xs }

  abbrev pub took : Subscription X → Subscription X
  took s = took_of s.held s

  -- one subscription changes, if it is there
  abbrev pub changed : ℕ → (Subscription X → Subscription X) → List (Subscription X) → List (Subscription X)
  changed i f [] = []
  changed zero f (s ∷ ss) = f s ∷ ss
  changed (suc i) f (s ∷ ss) = s ∷ changed i f ss

  -- the least id of a live subscription whose queue is full
  abbrev pub first_full : List (Subscription X) → Option ℕ
  first_full [] = None
  first_full (s ∷ ss) = if is_live s.standing && not (has_room s) then Some 0 else next_id (first_full ss)

  -- how many are live or leaving
  abbrev pub present : List (Subscription X) → ℕ
  present [] = 0
  present (s ∷ ss) = (if is_gone s.standing then 0 else 1) + present ss

  abbrev pub subscribed : ℕ → ℕ → Subscription X
  subscribed n cap = record { first = n; standing = live; cap = cap; taken = []; held = [] }

  -- a frame goes to all who are live, unless one of them has no room
  abbrev pub published_unless : Option ℕ → X → Hub X → Hub X
  published_unless (Some id) x h = h
  published_unless None x h = record h {
    published = h.published ++ x ∷ [];
    subscriptions = map (sent_frame x) h.subscriptions;
  }

  abbrev pub joined : ℕ → Hub X → Hub X
  joined cap h = if nat_lt (present h.subscriptions) most_subscriptions
      then record h { subscriptions = h.subscriptions ++ subscribed (length h.published) cap ∷ [] } else h

  -- a hub that is open becomes another
  abbrev pub if_open : Option End → Hub X → Hub X → Hub X
  if_open None new old = new
  if_open (Some e) new old = old

  abbrev pub step : Hub X → Event X → Hub X
  step h (publish x) = if_open h.closed (published_unless (first_full h.subscriptions) x h) h
  step h (subscribe cap) = if_open h.closed (joined cap h) h
  step h (unsubscribe id e) = record h { subscriptions = changed id (left (length h.published) e) h.subscriptions }
  step h (close e) = if_open h.closed (record h {
    closed = Some e;
    subscriptions = map (left (length h.published) e) h.subscriptions;
  }) h
  step h flush = record h { subscriptions = map flushed h.subscriptions }
  step h (take_next id) = record h { subscriptions = changed id took h.subscriptions }

  abbrev pub empty_hub : Hub X
  empty_hub = record { published = []; closed = None; subscriptions = [] }

  -- the hub after these events, in order
  abbrev pub after : Hub X → List (Event X) → Hub X
  after h [] = h
  after h (e ∷ es) = after (step h e) es

  -- the frames from place j up to place k
  abbrev pub part : List X → ℕ → ℕ → List X
  part all j k = take (k - j) (drop j all)

  -- the frames that a subscription is there for, of those that were published
  abbrev pub range_as : Standing → ℕ → List X → List X
  range_as live j all = drop j all
  range_as (leaving k e) j all = part all j k
  range_as (gone k e) j all = part all j k

  abbrev pub range : List X → Subscription X → List X
  range all s = range_as s.standing s.first all

  -- the end that was sent, if it was
  abbrev pub end_as : Standing → List (Item X)
  end_as live = []
  end_as (leaving k e) = []
  end_as (gone k e) = Ended e ∷ []

  -- what was sent: the frames of its range, and its end behind them
  abbrev pub sent : List X → Subscription X → List (Item X)
  sent all s = map One (range all s) ++ end_as s.standing

  -- the frames among items
  abbrev pub frames_of : List (Item X) → List X
  frames_of [] = []
  frames_of (One x ∷ xs) = x ∷ frames_of xs
  frames_of (Ended e ∷ xs) = frames_of xs
