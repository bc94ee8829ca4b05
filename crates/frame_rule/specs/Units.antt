-- The units that a decoder hands out, and those of the grammar.
use Rattle.std.specs.Prelude.{◌≡◌, List, [], ◌∷◌, ◌++◌, map}
use Rattle.storage.specs.declared.release.NoOwner.{NoOwner}
use Rattle.buffer_model.specs.Segment.{Segment, bytes_of}
use Rattle.frame_head.specs.Heads.{FramingUnit, FrameAt, FaultAt}
use Rattle.frame_rule.specs.declared.unit.FrameUnit.{FrameUnit}
use Rattle.frame_rule.specs.declared.unit.FrameUnit.TheVariants.{Frame, Fault}

-- the grammar's unit that a unit is
abbrev pub unit_of : FrameUnit → FramingUnit
unit_of (Frame at chain) = FrameAt at (bytes_of chain)
unit_of (Fault at kind) = FaultAt at kind

abbrev pub units_of : List FrameUnit → List FramingUnit
units_of us = map unit_of us

-- the nodes of the frames among some units, in order
abbrev pub nodes_in : List FrameUnit → List (Segment NoOwner)
nodes_in [] = []
nodes_in (Frame at chain ∷ us) = chain ++ nodes_in us
nodes_in (Fault at kind ∷ us) = nodes_in us

-- the units added to `old` are those that `all` has behind `some`
pub record Grew (some all : List FramingUnit) (old new : List FrameUnit) : Type 0 where
  pub added : List FrameUnit
  pub units : all ≡ some ++ units_of added
  pub haul : new ≡ old ++ added

-- the units added to `old` are the first of those that `all` has behind `some`
pub record GrewPartly (some all : List FramingUnit) (old new : List FrameUnit) : Type 0 where
  pub added : List FrameUnit
  pub missing : List FramingUnit
  pub units : all ≡ (some ++ units_of added) ++ missing
  pub haul : new ≡ old ++ added

-- this unit was added
pub record Gives (u : FramingUnit) (old new : List FrameUnit) : Type 0 where
  pub unit : FrameUnit
  pub is : unit_of unit ≡ u
  pub haul : new ≡ old ++ unit ∷ []
