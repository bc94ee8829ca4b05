-- Which nodes share their storage, and how often they can.
use Rattle.std.specs.Prelude.{◌≡◌, ℕ, ◌+◌, ◌-◌, ◌*◌, ◌<◌, ◌≤◌, ◌^◌, List, [], ◌∷◌, length, ◌⊎◌}
use Rattle.share_count.specs.Weights.{part}
use Rattle.buffer_model.specs.Share.{Share, IsManaged}
use Rattle.buffer_model.specs.Segment.{Segment}
use Rattle.iobuf_chain.specs.Lists.{Each}

module _ {O : Type 0} where
  abbrev pub HasData : Segment O → Type 0
  HasData s = 0 < length s.window

  -- two shares are of one storage: their numbers are one, and so are the words that count them
  abbrev pub IsSameStorage : Share O → Share O → Type 0
  IsSameStorage s t = (s.number ≡ t.number) × (s.table ≡ t.table)

  -- some node with data is on the storage of this share
  abbrev pub HasStorage : Share O → List (Segment O) → Type 0
  HasStorage k [] = ⊥
  HasStorage k (s ∷ ss) = (HasData s × IsSameStorage s.share k) ⊎ HasStorage k ss

  -- it holds of each node that has data
  abbrev pub WithData : (Segment O → Type 0) → List (Segment O) → Type 0
  WithData P ss = Each (λ s. HasData s → P s) ss

  -- no data was copied: each node with data has the storage of a node with data that was there
  abbrev pub CopiesNoData : List (Segment O) → List (Segment O) → Type 0
  CopiesNoData had has = WithData (λ s. HasStorage s.share had) has

  -- enough weight for each of its bytes to be cut off in turn
  abbrev pub IsHeavy : Segment O → Type 0
  IsHeavy s = IsManaged s.share × (2 ^ 41 * (length s.window + 1) ≤ s.share.weight)

  -- enough weight to be shared many times
  abbrev pub IsStout : Segment O → Type 0
  IsStout s = IsManaged s.share × (1024 ≤ s.share.weight)

  -- it has so much weight at least
  abbrev pub HasWeight : ℕ → Segment O → Type 0
  HasWeight weight s = weight ≤ s.share.weight

  -- it can be shared without a copy
  abbrev pub IsShareable : Segment O → Type 0
  IsShareable s = 2 ≤ s.share.weight

-- up to 1,024 shares in turn: where so many more can be made, one fewer can after the next
abbrev pub SharesInTurn : Type 0
SharesInTurn = (k w : ℕ) → k ≤ 1024 → k + 2 ≤ w → k + 1 ≤ w - part w
