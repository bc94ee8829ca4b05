-- What a relay stands for: all frames that were read, of which some are published and the others wait.
use Rattle.std.specs.Prelude.{◌≡◌, ◌⊎◌, ℕ, ◌+◌, ◌<◌, ◌≤◌, true, List, [], ◌∷◌, ◌++◌, length, drop, All, Option, Some, None, IfSome, MatchOption}
use Rattle.sub_queue.specs.declared.items.End.{End}
use Rattle.sub_queue.specs.declared.items.End.TheVariants.{Left, Lagged}
use Rattle.hub_model.specs.Hub.{Standing, live, leaving, gone, is_gone, Subscription, sent, part, frames_of}
use Rattle.relay_model.specs.Relay.{Member, Relay}

-- place p is crowded: one turn began with at most p frames published, and the turn before it with so few that the cap
-- fits between them and p. Turns are told by how many were published as they began, the last first
pub record IsCrowded (cap : ℕ) (turns : List ℕ) (p : ℕ) : Type 0 where
  pub later : List ℕ
  pub now : ℕ
  pub before : ℕ
  pub earlier : List ℕ
  pub parts : turns ≡ later ++ now ∷ before ∷ earlier
  pub begun : now ≤ p
  pub few : before + cap ≤ p

-- it reached the place at which it leaves
pub record Reached (from : ℕ) (until : Option ℕ) (first stop : ℕ) (end : End) : Type 0 where
  pub end_is : end ≡ Left
  pub until_is : until ≡ Some stop
  pub first_is : first ≡ from
  pub within : from ≤ stop

-- it was left behind at a crowded place of its range, before a frame that was published
pub record FellBehind (cap count : ℕ) (turns : List ℕ) (from : ℕ) (until : Option ℕ) (first stop : ℕ) (end : End)
    : Type 0 where
  pub end_is : end ≡ Lagged
  pub first_is : first ≡ from
  pub far : from + cap ≤ stop
  pub crowded : IsCrowded cap turns stop
  pub below : stop < count
  pub within : IfSome until (λ k. stop < k)

-- the hub was closed before it reached the place at which it leaves; it may have been subscribed only then
pub record WasShut (count : ℕ) (closed : Option End) (from : ℕ) (until : Option ℕ) (first stop : ℕ) (end : End)
    : Type 0 where
  pub end_is : closed ≡ Some end
  pub stop_is : stop ≡ count
  pub first_is : (first ≡ from) ⊎ ((first ≡ stop) × (stop ≤ from))
  pub within : IfSome until (λ k. stop < k)

module _ {X : Type 0} where
  abbrev pub count : Relay X → ℕ
  count r = length r.published

  abbrev pub turns : Relay X → List ℕ
  turns r = r.was ∷ r.earlier

  -- why a subscription ended
  abbrev pub Ended : ℕ → Relay X → Member X → ℕ → ℕ → End → Type 0
  Ended cap r m first stop end =
      Reached m.from m.until first stop end
      ⊎ FellBehind cap (count r) (turns r) m.from m.until first stop end
      ⊎ WasShut (count r) r.closed m.from m.until first stop end

  -- a live one came at its first place, hasn't reached its last, and took what was published before the last turn
  pub record IsLive (r : Relay X) (m : Member X) (s : Subscription X) : Type 0 where
    pub first_is : s.first ≡ m.from
    pub opened : r.closed ≡ None
    pub within : IfSome m.until (λ k. count r ≤ k)
    pub taken_is : (length s.taken + s.first ≡ r.was) ⊎ ((s.taken ≡ []) × (r.was ≤ s.first))

  abbrev pub StandsAs : ℕ → Relay X → Member X → Subscription X → Standing → Type 0
  StandsAs cap r m s live = IsLive r m s
  StandsAs cap r m s (leaving stop end) = (stop ≤ count r) × Ended cap r m s.first stop end
  StandsAs cap r m s (gone stop end) = (stop ≤ count r) × Ended cap r m s.first stop end

  -- a subscription: what was taken and what its queue holds are what was sent, at most its cap, for the reason by which
  -- it stands as it does
  pub record IsSeated (cap : ℕ) (r : Relay X) (m : Member X) (s : Subscription X) : Type 0 where
    pub cap_is : s.cap ≡ cap
    pub first : s.first ≤ count r
    pub items : s.taken ++ s.held ≡ sent r.published s
    pub room : length s.held ≤ s.cap
    pub stands : StandsAs cap r m s s.standing

  -- who has no subscription yet awaits its first place
  abbrev pub Awaits : Relay X → Member X → Type 0
  Awaits r m = (count r ≤ m.from) × (r.closed ≡ None)

  pub record Follows (cap : ℕ) (r : Relay X) (m : Member X) : Type 0 where
    pub range : IfSome m.until (λ k. m.from ≤ k)
    pub seat : MatchOption m.seat (Awaits r m) (IsSeated cap r m)

  -- a relay stands for the frames that were read: those that were published, and then those that wait; each subscriber
  -- follows; and once the hub is closed nothing waits
  pub record StandsFor (cap : ℕ) (frames : List X) (r : Relay X) : Type 0 where
    pub parts : frames ≡ r.published ++ r.waiting
    pub before : r.was ≤ count r
    pub closed : IfSome r.closed (λ e. (r.ended ≡ Some e) × (r.waiting ≡ []))
    pub follow : All (Follows cap r) r.members

  -- its end was sent, and all that was sent is taken
  pub record IsDone (s : Subscription X) : Type 0 where
    pub gone_is : is_gone s.standing ≡ true
    pub none : s.held ≡ []

  -- the hub is closed with this end, and each subscriber is done
  pub record IsOver (end : End) (r : Relay X) : Type 0 where
    pub closed : r.closed ≡ Some end
    pub done : All (λ m. MatchOption m.seat ⊥ IsDone) r.members

  -- it got the frames from its first place up to the place at which it leaves
  pub record GotUntil (frames : List X) (m : Member X) (s : Subscription X) : Type 0 where
    pub stop : ℕ
    pub until : m.until ≡ Some stop
    pub within : (m.from ≤ stop) × (stop ≤ length frames)
    pub taken : frames_of s.taken ≡ part frames m.from stop
    pub standing : s.standing ≡ gone stop Left

  -- it got the frames from its first place up to a crowded place of its range
  pub record GotBehind (cap : ℕ) (frames : List X) (turns : List ℕ) (m : Member X) (s : Subscription X) : Type 0 where
    pub stop : ℕ
    pub far : m.from + cap ≤ stop
    pub crowded : IsCrowded cap turns stop
    pub within : (stop < length frames) × IfSome m.until (λ k. stop < k)
    pub taken : frames_of s.taken ≡ part frames m.from stop
    pub standing : s.standing ≡ gone stop Lagged

  -- it got all frames from its first place on, and the input's end
  pub record GotAll (frames : List X) (end : End) (m : Member X) (s : Subscription X) : Type 0 where
    pub within : IfSome m.until (λ k. length frames < k)
    pub taken : frames_of s.taken ≡ drop m.from frames
    pub standing : s.standing ≡ gone (length frames) end

  -- one of the three
  abbrev pub Got : ℕ → List X → List ℕ → End → Member X → Subscription X → Type 0
  Got cap frames turns end m s = GotUntil frames m s ⊎ GotBehind cap frames turns m s ⊎ GotAll frames end m s
