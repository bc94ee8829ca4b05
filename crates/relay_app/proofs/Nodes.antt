-- A node that is fed behind those that are kept.
use Rattle.std.proofs.Common.{◌≡◌, List, [], ◌∷◌, ◌++◌, subst}
use Rattle.storage.specs.declared.release.NoOwner.{NoOwner}
use Rattle.buffer_model.specs.Segment.{Segment}
use Rattle.iobuf_chain.specs.Copies.{HasData, IsHeavy, WithData}
use Rattle.iobuf_chain.proofs.Copied.{each_append}
use Rattle.frame_rule.specs.declared.unit.FrameUnit.{FrameUnit}
use Rattle.frame_rule.specs.Hauls.{SharesData}

-- no data is copied, since what is kept and the node are heavy
pub shares_data : (was kept now : List (Segment NoOwner)) (node : Segment NoOwner) (piece : List (Segment NoOwner)) {old new : List FrameUnit}
    → was ≡ kept → piece ≡ node ∷ [] → WithData IsHeavy kept → IsHeavy node → old ≡ []
    → (WithData IsHeavy (was ++ piece) → SharesData (was ++ piece) now old new) → SharesData (kept ++ node ∷ []) now [] new
shares_data was kept now node piece {old} {new} stays same before heavy none shares =
    let R : List (Segment NoOwner) → Type 0 = λ ns. WithData IsHeavy (ns ++ piece) → SharesData (ns ++ piece) now old new in
    let P : List (Segment NoOwner) → Type 0 = λ ns. WithData IsHeavy (kept ++ ns) → SharesData (kept ++ ns) now old new in
    let Q : List FrameUnit → Type 0 = λ us. SharesData (kept ++ node ∷ []) now us new in
    subst Q none (subst P same (subst R stays shares) (each_append (λ (s : Segment NoOwner). HasData s → IsHeavy s) kept (node ∷ []) before ((λ some. heavy), tt)))
