-- What holds of a hub after every list of events.
use Rattle.std.specs.Prelude.{◌≡◌, ℕ, ◌≤◌, true, false, List, ◌∷◌, ◌++◌, length, All, MatchOption}
use Rattle.sub_queue.specs.Line.{Begins}
use Rattle.hub_model.specs.Hub.{Subscription, Event, after, empty_hub, range, sent, frames_of, is_live, has_room, first_full}

-- a subscription of a hub that published these frames: what was taken and what is held are together what was sent;
-- what was taken, without an end, is a beginning of the frames of its range; and its queue isn't over its cap
pub record IsServed {X : Type 0} (published : List X) (s : Subscription X) : Type 0 where
  pub sent : s.taken ++ s.held ≡ sent published s
  pub begins : Begins (frames_of s.taken) (range published s)
  pub cap : length s.held ≤ s.cap

-- after every list of events from the empty hub each subscription is served
abbrev pub ServesAll : Type 0 → Type 0
ServesAll X = (es : List (Event X)) → let h = after empty_hub es in All (IsServed h.published) h.subscriptions

-- who is live has room
abbrev pub HasRoomIfLive : {X : Type 0} → Subscription X → Type 0
HasRoomIfLive s = is_live s.standing ≡ true → has_room s ≡ true

-- of these subscriptions that with this id is live and full, and each live one before it has room
pub record IsFirstFull {X : Type 0} (ss : List (Subscription X)) (id : ℕ) : Type 0 where
  pub before : List (Subscription X)
  pub full : Subscription X
  pub behind : List (Subscription X)
  pub parts : ss ≡ before ++ full ∷ behind
  pub place : length before ≡ id
  pub rooms : All HasRoomIfLive before
  pub live : is_live full.standing ≡ true
  pub room : has_room full ≡ false

-- who blocks a publication is the first live one that is full; where nobody does, each live one has room
abbrev pub BlocksFirst : Type 0 → Type 0
BlocksFirst X = (ss : List (Subscription X)) → MatchOption (first_full ss) (All HasRoomIfLive ss) (IsFirstFull ss)
