-- Copies of nodes that leave their storages.
use Rattle.std.specs.Prelude.{◌≡◌, ℕ, true, false, List, [], ◌∷◌, ◌++◌, ◌⊎◌}
use Rattle.buffer_model.specs.Segment.{Segment}
use Rattle.buffer_model.specs.Minted.{Numbers}
use Rattle.buffer_model.specs.Clones.{MovesOut}
use Rattle.write_cursor.specs.Leaving.{leaves}

-- a list of copies before and after a copy of a node came last, where the node leaves its storage
abbrev pub CopiesIf : {O : Type 0} → ℕ → ℕ → Numbers → Numbers → Segment O → List (Segment O) → List (Segment O)
    → Type 0
CopiesIf {O = O} at n old new node before after =
    ((leaves at n node ≡ false) × (after ≡ before) × (new ≡ old))
    ⊎ ((leaves at n node ≡ true) × (copy : Segment O) × MovesOut old new node copy × (after ≡ before ++ copy ∷ []))
