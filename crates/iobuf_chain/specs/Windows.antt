-- The data of nodes, each by itself.
use Rattle.std.specs.Prelude.{ℕ, List, [], ◌∷◌}
use Rattle.buffer_model.specs.Segment.{Segment}

-- the data of each node, in order
abbrev pub windows_of : {O : Type 0} → List (Segment O) → List (List ℕ)
windows_of [] = []
windows_of (s ∷ ss) = s.window ∷ windows_of ss
