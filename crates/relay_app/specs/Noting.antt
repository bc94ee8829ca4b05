-- The first fault among units.
use Rattle.std.specs.Prelude.{List, [], ◌∷◌, Option, Some, None}
use Rattle.frame_head.specs.Heads.{FramingUnit, FrameAt, FaultAt}
use Rattle.relay_app.specs.declared.stream_fault.StreamFault.{StreamFault}

-- the first fault among some units
abbrev pub first_fault : List FramingUnit → Option StreamFault
first_fault [] = None
first_fault (FrameAt at bytes ∷ us) = first_fault us
first_fault (FaultAt at kind ∷ us) = Some (record { at = at; kind = kind })

-- a fault that was noted, or the first among some units where none was
abbrev pub fault_after : Option StreamFault → List FramingUnit → Option StreamFault
fault_after None us = first_fault us
fault_after (Some f) us = Some f
