-- What holds of a relay.
use Rattle.std.specs.Prelude.{◌≡◌, ℕ, ◌≤◌, List, [], ◌++◌, All, Option, None, IfSome, MatchOption, drop, ⊤}
use Rattle.sub_queue.specs.declared.items.End.{End}
use Rattle.sub_queue.specs.Line.{Begins}
use Rattle.hub_model.specs.Hub.{frames_of}
use Rattle.relay_model.specs.Relay.{Setting, Member, Relay, turn, begun}
use Rattle.relay_model.specs.Standing.{StandsFor, IsOver, Got, turns}

-- a subscriber that wasn't subscribed yet, whose range isn't turned round
abbrev pub IsNew : {X : Type 0} → Member X → Type 0
IsNew m = (m.seat ≡ None) × IfSome m.until (λ k. m.from ≤ k)

-- a relay that was begun stands for no frame
abbrev pub BeginStands : Type 0 → Type 0
BeginStands X = (cap : ℕ) (ms : List (Member X)) → All IsNew ms → StandsFor cap [] (begun ms)

-- a turn keeps what a relay stands for, with the frames that were read in it behind the others; after the input's end
-- nothing is read
abbrev pub TurnStands : Type 0 → Type 0
TurnStands X = (set : Setting) (frames given : List X) (end : Option End) (r : Relay X) → StandsFor set.cap frames r
    → IfSome r.ended (λ e. given ≡ []) → StandsFor set.cap (frames ++ given) (turn set given end r)

-- when it is over, each subscriber got the frames of its range, each once and in order, or of this the part before a
-- crowded place
abbrev pub OverTells : Type 0 → Type 0
OverTells X = (cap : ℕ) (frames : List X) (end : End) (r : Relay X) → StandsFor cap frames r → IsOver end r
    → All (λ m. MatchOption m.seat ⊥ (Got cap frames (turns r) end m)) r.members

-- at every moment each subscriber has got a beginning of the frames from its first place on
abbrev pub StandsBegins : Type 0 → Type 0
StandsBegins X = (cap : ℕ) (frames : List X) (r : Relay X) → StandsFor cap frames r
    → All (λ m. MatchOption m.seat ⊤ (λ s. Begins (frames_of s.taken) (drop m.from frames))) r.members
