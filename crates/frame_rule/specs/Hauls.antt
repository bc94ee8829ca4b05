-- What a haul has of storages, and what calls put into it.
use Rattle.std.specs.Prelude.{◌<◌, ◌≡◌, ◌⊎◌, ◌≤◌, List, [], ◌∷◌, ◌++◌, Option, Some, None, Result, Ok, Err, length}
use Rattle.std.specs.List.{AllZip}
use Rattle.std.specs.Vec.{vec_len, vec_capacity}
use Rattle.storage.specs.declared.release.NoOwner.{NoOwner}
use Rattle.storage.specs.declared.back.Back.{Back}
use Rattle.storage.specs.Back.{GivesBack, stakes_in}
use Rattle.buffer_model.specs.Segment.{Segment, bytes_of, hold_of}
use Rattle.buffer_model.specs.Stake.{Stake, KeepsTotals, KeepsTotalsBeside}
use Rattle.buffer_model.specs.Minted.{Numbers, NumbersOn}
use Rattle.iobuf_chain.specs.Accounts.{held_by}
use Rattle.iobuf_chain.specs.Copies.{CopiesNoData, HasData, IsHeavy, IsStout, WithData}
use Rattle.iobuf_chain.specs.Lists.{Each}
use Rattle.frame_rule.specs.declared.haul.Haul.{Haul}
use Rattle.frame_rule.specs.declared.unit.FrameUnit.{FrameUnit}
use Rattle.frame_rule.specs.declared.unit.FrameUnit.TheVariants.{Frame, Fault}
use Rattle.frame_rule.specs.Units.{nodes_in}

-- what was handed back has of storages
abbrev pub stakes_back : List (List (Back NoOwner)) → List (Stake NoOwner)
stakes_back [] = []
stakes_back (r ∷ rs) = stakes_in r ++ stakes_back rs

-- the nodes of a chain that may be there
abbrev pub nodes_if : Option (List (Segment NoOwner)) → List (Segment NoOwner)
nodes_if None = []
nodes_if (Some nodes) = nodes

-- the nodes that are kept, and behind them those of a piece that was refused
abbrev pub all_kept : Option (List (Segment NoOwner)) → Option (List (Segment NoOwner)) → List (Segment NoOwner)
all_kept kept None = nodes_if kept
all_kept kept (Some piece) = nodes_if kept ++ piece

-- the piece that was refused, if one was
abbrev pub refused_in : {U : Type 0} → Result U (Option (List (Segment NoOwner))) → Option (List (Segment NoOwner))
refused_in (Ok u) = None
refused_in (Err piece) = piece

-- what a haul has of storages: by its frames, and by what was handed back
abbrev pub hauled : Haul → List (Stake NoOwner)
hauled h = held_by (nodes_in h.units.items) ++ stakes_back h.back.items

-- `longer` is `shorter` with something added at its end
pub record Begins {X : Type 0} (shorter longer : List X) : Type 0 where
  pub added : List X
  pub longer_is : longer ≡ shorter ++ added

-- what the nodes of a chain hand back, one for each, in order
abbrev pub AreReturns : List (Segment NoOwner) → List (Back NoOwner) → Type 0
AreReturns nodes backs = AllZip (λ s b. GivesBack (λ (n : NoOwner). n.runs) (λ n. None) (hold_of s) b) nodes backs

-- a haul of the same units and returns
abbrev pub SameHaul : Haul → Haul → Type 0
SameHaul old new = (new.units.items ≡ old.units.items) × (new.back.items ≡ old.back.items)

-- what a piece hands back came behind all that was handed back before
abbrev pub AddsReturns : List (Segment NoOwner) → Haul → Haul → Type 0
AddsReturns piece old new =
    (backs : List (Back NoOwner)) × AreReturns piece backs × (new.back.items ≡ old.back.items ++ backs ∷ [])

-- a haul before and after a dead decoder was fed a piece: what that handed back was added, or memory was refused;
-- which it wasn't where there was room
pub record ReturnsPiece (piece : List (Segment NoOwner)) (old new : Haul) : Type 0 where
  pub units : new.units.items ≡ old.units.items
  pub back : AddsReturns piece old new ⊎ (new.back.items ≡ old.back.items)
  pub room : vec_len old.back < vec_capacity old.back → AddsReturns piece old new

-- the same of some pieces: only the first was handed back, and where there is none, nothing was
abbrev pub ReturnsFirst : List (List (Segment NoOwner)) → Haul → Haul → Type 0
ReturnsFirst [] old new = SameHaul old new
ReturnsFirst (piece ∷ pieces) old new = ReturnsPiece piece old new

-- no data was copied: the nodes with data that are kept, and those of the units that were added, have storages of these
-- nodes; and they can still be cut, and be shared
pub record SharesData (had kept : List (Segment NoOwner)) (old new : List FrameUnit) : Type 0 where
  pub added : List FrameUnit
  pub haul : new ≡ old ++ added
  pub copies : CopiesNoData had (kept ++ nodes_in added)
  pub heavy : WithData IsHeavy kept
  pub stout : WithData IsStout (nodes_in added)

-- if there are any nodes, they have bytes
abbrev pub HasBytesIfAny : List (Segment NoOwner) → Type 0
HasBytesIfAny nodes = bytes_of nodes ≡ [] → nodes ≡ []

-- one node, or nodes that each have data
abbrev pub IsTight : List (Segment NoOwner) → Type 0
IsTight nodes = (length nodes ≡ 1) ⊎ Each HasData nodes

-- a frame of such nodes, or a fault
abbrev pub IsTightUnit : FrameUnit → Type 0
IsTightUnit (Frame at chain) = IsTight chain
IsTightUnit (Fault at kind) = Unit {0}

-- such units were added
pub record AddsTight (old new : List FrameUnit) : Type 0 where
  pub added : List FrameUnit
  pub haul : new ≡ old ++ added
  pub tight : Each IsTightUnit added

-- nodes, the haul and the mint before and after: nothing of a storage is lost, and nothing that was handed back
pub record Moves (old new : Numbers) (before after : List (Segment NoOwner)) (haul now : Haul) : Type 0 where
  pub totals : KeepsTotalsBeside old new (held_by before ++ hauled haul) (held_by after ++ hauled now)
  pub mint : NumbersOn old new
  pub back : Begins haul.back.items now.back.items

-- nodes that were cut off, and those that stay: no data was copied, they can still be shared, and these can still be
-- cut
pub record CutsShare (had front rest : List (Segment NoOwner)) : Type 0 where
  pub front_copies : CopiesNoData had front
  pub rest_copies : CopiesNoData had rest
  pub stout : WithData IsStout front
  pub heavy : WithData IsHeavy rest

-- nodes before a cut, those that were cut off, and those that stay: no data was copied, and nodes that each have data
-- still do
pub record CutsOff (before front rest : List (Segment NoOwner)) : Type 0 where
  pub shares : WithData IsHeavy before → CutsShare before front rest
  pub tight : IsTight before → IsTight front × IsTight rest

-- nodes before and after bytes left them for a haul of these units: no data was copied, and nodes that each have data
-- still do
pub record CutsNodes (before after : List (Segment NoOwner)) (old new : List FrameUnit) : Type 0 where
  pub shares : WithData IsHeavy before → SharesData before after old new
  pub tight : IsTight before → IsTight after × AddsTight old new

-- what nodes hand back was added to a haul, or there was no storage under them
pub record GivesUp (nodes : List (Segment NoOwner)) (old new : Haul) : Type 0 where
  pub units : new.units.items ≡ old.units.items
  pub back : Begins old.back.items new.back.items
  pub totals : KeepsTotals (held_by nodes ++ hauled old) (hauled new)

-- nodes with data are kept as they are; others were given up
abbrev pub Settles : List (Segment NoOwner) → List (Segment NoOwner) → Haul → Haul → Type 0
Settles nodes kept old new =
    ((kept ≡ nodes) × (0 < length (bytes_of nodes)) × (new ≡ old))
    ⊎ ((kept ≡ []) × (bytes_of nodes ≡ []) × GivesUp nodes old new)
