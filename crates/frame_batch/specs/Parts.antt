-- A frame in parts.
use Rattle.std.specs.Prelude.{ℕ, ◌-◌, List, [], ◌∷◌, ◌++◌, length, take, drop}
use Rattle.storage.specs.declared.release.NoOwner.{NoOwner}
use Rattle.buffer_model.specs.Segment.{Segment}

-- bytes as one part, or none where there are no bytes
abbrev pub one_part : List ℕ → List (List ℕ)
one_part [] = []
one_part (b ∷ bs) = (b ∷ bs) ∷ []

-- the parts of so many bytes from a place on: of each node that has some of them, those. A node passes so many places
-- and takes so many bytes as it has
abbrev pub parts_in : ℕ → ℕ → List (Segment NoOwner) → List (List ℕ)
parts_in place size [] = []
parts_in place size (s ∷ ss) =
    one_part (take size (drop place s.window))
    ++ parts_in (place - length s.window) (size - (length s.window - place)) ss
