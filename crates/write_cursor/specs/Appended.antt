-- Chains to which bytes are added.
use Rattle.std.specs.Prelude.{◌≡◌, ℕ, ◌-◌, ◌<◌, ◌≤◌, max, if◌then◌else◌, List, [], ◌∷◌, ◌++◌, ◌⊎◌, length, take, drop}
use Rattle.buffer_model.specs.Share.{own, claimed}
use Rattle.buffer_model.specs.Segment.{Segment, between_rooms, shared_as}
use Rattle.buffer_model.specs.Minted.{Numbers, Adds, IsNew}
use Rattle.iobuf_chain.specs.Tails.{turned_last}
use Rattle.chain_unshare.specs.Unshares.{is_whole}

module _ {O : Type 0} where
  -- how many bytes a node takes behind its data: none where others may hold its storage
  abbrev pub room_in : Segment O → ℕ
  room_in s = if is_whole s.share then length s.after else 0

  -- the same of the last node
  abbrev pub room_behind : List (Segment O) → ℕ
  room_behind [] = 0
  room_behind (s ∷ []) = room_in s
  room_behind (s ∷ t ∷ ss) = room_behind (t ∷ ss)

  -- a node that took these bytes behind its data; without bytes it stays
  abbrev pub grown_by : List ℕ → Segment O → Segment O
  grown_by [] s = s
  grown_by (b ∷ bytes) s = record (shared_as (claimed s.share) s) {
    window = s.window ++ b ∷ bytes;
    after = drop (length (b ∷ bytes)) s.after;
  }

  -- a chain whose last node took them
  abbrev pub grown_behind : List ℕ → List (Segment O) → List (Segment O)
  grown_behind bytes ss = turned_last (λ s. grown_by bytes s) ss

  -- a node on a new storage of so many bytes, of which the first are these
  pub record IsFilled (size : ℕ) (old new : Numbers) (bytes : List ℕ) (s : Segment O) : Type 0 where
    pub lists : s ≡ between_rooms 0 (size - length bytes) bytes s.share
    pub storage : IsNew old new own s.share
    pub mint : Adds 1 old new

  -- nodes of `grow` bytes with these bytes in them: each is full, but the last
  abbrev pub AddsNodes : ℕ → Numbers → Numbers → List ℕ → List (Segment O) → Type 0
  AddsNodes grow old new bytes [] = (bytes ≡ []) × (new ≡ old)
  AddsNodes grow old new bytes (s ∷ ss) =
      (mid : Numbers) × (0 < length bytes) × IsFilled grow old mid (take grow bytes) s
      × AddsNodes grow mid new (drop grow bytes) ss

  -- nodes before and after these bytes came last in new nodes of `grow` bytes
  pub record Extends (grow : ℕ) (old new : Numbers) (bytes : List ℕ) (before after : List (Segment O)) : Type 0 where
    pub more : List (Segment O)
    pub added : AddsNodes grow old new bytes more
    pub after_is : after ≡ before ++ more

  -- a chain before and after these bytes came last: the last node took what it has room for, and new ones the others
  pub record Pushes (grow : ℕ) (old new : Numbers) (bytes : List ℕ) (before after : List (Segment O)) : Type 0 where
    pub more : List (Segment O)
    pub added : AddsNodes grow old new (drop (room_behind before) bytes) more
    pub after_is : after ≡ grown_behind (take (room_behind before) bytes) before ++ more

  -- a chain before and after room for n bytes behind its data was made sure of: where the last node takes so many it
  -- stays, else a node without data comes last that has room for them, and for `grow` bytes
  abbrev pub Ensures : ℕ → ℕ → Numbers → Numbers → List (Segment O) → List (Segment O) → Type 0
  Ensures n grow old new before after =
      ((n ≤ room_behind before) × (after ≡ before) × (new ≡ old))
      ⊎ ((room_behind before < n) × (s : Segment O) × (after ≡ before ++ s ∷ []) × IsFilled (max n grow) old new [] s)

  -- the same, with these bytes in the room
  pub record PutsBehind (grow : ℕ) (old new : Numbers) (bytes : List ℕ) (before after : List (Segment O)) : Type 0 where
    pub ready : List (Segment O)
    pub ensured : Ensures (length bytes) grow old new before ready
    pub after_is : after ≡ grown_behind bytes ready
