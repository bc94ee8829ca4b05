-- A relay as a machine over lists: what a turn makes of the frames that wait and of each subscriber.
use Rattle.std.specs.Prelude.{ℕ, ◌==◌, ◌&&◌, ◌||◌, Bool, false, not, if◌then◌else◌, List, [], ◌∷◌, ◌++◌, length, map, take, drop, Option, Some, None}
use Rattle.sub_queue.specs.declared.items.End.{End}
use Rattle.sub_queue.specs.declared.items.End.TheVariants.{Left, Lagged}
use Rattle.hub_model.specs.Hub.{Subscription, is_live, has_room, subscribed, sent_frame, left, flushed}

-- what is done where a queue is full: the frame is kept for a later turn, or the subscriber is left behind
pub data Slow : Type 0 where
  keep_frame : Slow
  leave_behind : Slow

-- the most frames that a queue holds, and what is done where one is full
pub record Setting : Type 0 where
  pub cap : ℕ
  pub slow : Slow

-- a subscriber: its first place, the place at which it leaves, how many items it is to take in this turn, and its
-- subscription, once it has one
pub record Member (X : Type 0) : Type 0 where
  pub from : ℕ
  pub until : Option ℕ
  pub upto : ℕ
  pub seat : Option (Subscription X)

-- a relay: what was published, the frames that wait, how the input ended, the end with which the hub was closed, how
-- many were published as the last turn began and as each turn before it did, and the subscribers
pub record Relay (X : Type 0) : Type 0 where
  pub published : List X
  pub waiting : List X
  pub ended : Option End
  pub closed : Option End
  pub was : ℕ
  pub earlier : List ℕ
  pub members : List (Member X)

-- the first of two that is there
abbrev pub first_of : Option End → Option End → Option End
first_of None e = e
first_of (Some d) e = Some d

module _ {X : Type 0} where
  abbrev pub on_seat : (Subscription X → Subscription X) → Option (Subscription X) → Option (Subscription X)
  on_seat f None = None
  on_seat f (Some s) = Some (f s)

  abbrev pub seated : (Subscription X → Subscription X) → Member X → Member X
  seated f m = record m { seat = on_seat f m.seat }

  -- who begins at this place joins
  abbrev pub joined_at : ℕ → ℕ → ℕ → Option (Subscription X) → Option (Subscription X)
  joined_at cap n from None = if from == n then Some (subscribed n cap) else None
  joined_at cap n from (Some s) = Some s

  -- who ends at this place leaves
  abbrev pub left_at : ℕ → Option ℕ → Option (Subscription X) → Option (Subscription X)
  left_at n None seat = seat
  left_at n (Some k) seat = if k == n then on_seat (left n Left) seat else seat

  -- so many frames are published: who begins there joins, and then who ends there leaves
  abbrev pub arrives : ℕ → ℕ → Member X → Member X
  arrives cap n m = record m { seat = left_at n m.until (joined_at cap n m.from m.seat) }

  -- who has no room for the next frame is left behind
  abbrev pub lags : ℕ → Subscription X → Subscription X
  lags n s = if has_room s then s else left n Lagged s

  abbrev pub is_stuck : Option (Subscription X) → Bool
  is_stuck None = false
  is_stuck (Some s) = is_live s.standing && not (has_room s)

  abbrev pub any_stuck : List (Member X) → Bool
  any_stuck [] = false
  any_stuck (m ∷ ms) = is_stuck m.seat || any_stuck ms

  -- whether a frame has to wait
  abbrev pub waits : Slow → List (Member X) → Bool
  waits keep_frame ms = any_stuck ms
  waits leave_behind ms = false

  -- a frame goes to who is live and has room
  abbrev pub sent_or_lags : ℕ → X → Member X → Member X
  sent_or_lags n x m = seated (λ s. sent_frame x (lags n s)) m

  abbrev pub arrived : ℕ → Relay X → Relay X
  arrived cap r = record r { members = map (arrives cap (length r.published)) r.members }

  abbrev pub sent : X → Relay X → Relay X
  sent x r = record r {
    published = r.published ++ x ∷ [];
    members = map (sent_or_lags (length r.published) x) r.members;
  }

  -- the frames are published in order, up to the first that has to wait
  abbrev pub publish : Setting → List X → Relay X → Relay X
  publish set [] r = record (arrived set.cap r) { waiting = [] }
  publish set (x ∷ xs) r =
      if waits set.slow (arrived set.cap r).members then record (arrived set.cap r) { waiting = x ∷ xs }
      else publish set xs (sent x (arrived set.cap r))

  -- a subscriber whose first place was not reached is subscribed, and all who are live leave
  abbrev pub shut_at : ℕ → ℕ → End → Option (Subscription X) → Option (Subscription X)
  shut_at cap n e None = Some (left n e (subscribed n cap))
  shut_at cap n e (Some s) = Some (left n e s)

  abbrev pub shuts : ℕ → ℕ → End → Member X → Member X
  shuts cap n e m = record m { seat = shut_at cap n e m.seat }

  abbrev pub shut : ℕ → End → Relay X → Relay X
  shut cap e r = record r { closed = Some e; members = map (shuts cap (length r.published) e) r.members }

  -- once the input has ended and nothing waits, the hub is closed
  abbrev pub shut_if : ℕ → Option End → List X → Option End → Relay X → Relay X
  shut_if cap None xs closed r = r
  shut_if cap (Some e) (x ∷ xs) closed r = r
  shut_if cap (Some e) [] (Some d) r = r
  shut_if cap (Some e) [] None r = shut cap e r

  -- how many items a queue holds
  abbrev pub held_in : Option (Subscription X) → ℕ
  held_in None = 0
  held_in (Some s) = length s.held

  -- the first so many items that are held are taken
  abbrev pub took_first : ℕ → Subscription X → Subscription X
  took_first n s = record s { taken = s.taken ++ take n s.held; held = drop n s.held }

  -- each subscriber is to take what its queue holds as the turn begins
  abbrev pub meets : Member X → Member X
  meets m = record m { upto = held_in m.seat }

  abbrev pub begins : Option End → Relay X → Relay X
  begins end r = record r {
    ended = first_of r.ended end;
    was = length r.published;
    earlier = r.was ∷ r.earlier;
    members = map meets r.members;
  }

  -- the publisher's part of a turn: the frames that waited and those that were read are published, the hub is closed
  -- where the input has ended and nothing waits, and ends that wait are sent
  abbrev pub publisher_part : Setting → List X → Relay X → Relay X
  publisher_part set given r =
      let p = publish set (r.waiting ++ given) r in
      let q = shut_if set.cap p.ended p.waiting p.closed p in
      record q { members = map (seated flushed) q.members }

  -- the drainers' part: each takes what it is to
  abbrev pub takes : Member X → Member X
  takes m = seated (took_first m.upto) m

  abbrev pub drainers_part : Relay X → Relay X
  drainers_part r = record r { members = map takes r.members }

  -- a turn in which these frames were read, and with them the input's end, if it came
  abbrev pub turn : Setting → List X → Option End → Relay X → Relay X
  turn set given end r = drainers_part (publisher_part set given (begins end r))

  -- a subscriber from its first place on, up to another if that is given
  abbrev pub member : ℕ → Option ℕ → Member X
  member from until = record { from = from; until = until; upto = 0; seat = None }

  -- a relay to these subscribers, of which nothing was read
  abbrev pub begun : List (Member X) → Relay X
  begun ms = record {
    published = [];
    waiting = [];
    ended = None;
    closed = None;
    was = 0;
    earlier = [];
    members = ms;
  }
