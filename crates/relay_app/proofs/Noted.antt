-- The first fault among joined units.
use Rattle.std.proofs.Common.{◌≡◌, List, [], ◌∷◌, ◌++◌, Option, Some, None, refl, sym}
use Rattle.frame_head.specs.Heads.{FramingUnit, FrameAt, FaultAt}
use Rattle.relay_app.specs.declared.stream_fault.StreamFault.{StreamFault}
use Rattle.relay_app.specs.Noting.{fault_after, first_fault}

pub first_fault-append : (us vs : List FramingUnit) → first_fault (us ++ vs) ≡ fault_after (first_fault us) vs
first_fault-append [] vs = refl
first_fault-append (FrameAt at bytes ∷ us) vs = first_fault-append us vs
first_fault-append (FaultAt at kind ∷ us) vs = refl

pub fault_after-append : (f : Option StreamFault) (us vs : List FramingUnit) → fault_after (fault_after f us) vs ≡ fault_after f (us ++ vs)
fault_after-append None us vs = sym (first_fault-append us vs)
fault_after-append (Some f) us vs = refl

pub fault_after_nothing : (f : Option StreamFault) → f ≡ fault_after f []
fault_after_nothing None = refl
fault_after_nothing (Some f) = refl
