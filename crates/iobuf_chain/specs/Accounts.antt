-- What a call on nodes has of storages, at its entry and at its exit.
use Rattle.std.specs.Prelude.{List, [], ◌∷◌, Option, Some, None, Result, Ok, Err}
use Rattle.buffer_model.specs.Segment.{Segment}
use Rattle.buffer_model.specs.Stake.{Stake, held}

-- what nodes have of storages: their holds, in order
abbrev pub held_by : {O : Type 0} → List (Segment O) → List (Stake O)
held_by [] = []
held_by (s ∷ ss) = held s.share ∷ held_by ss

-- the nodes that a call answers
abbrev pub answered : {X E : Type 0} → Result (List X) E → List X
answered (Ok nodes) = nodes
answered (Err e) = []

-- the nodes of a chain that a call may answer
abbrev pub answered_if : {X E : Type 0} → Result (Option (List X)) E → List X
answered_if (Ok None) = []
answered_if (Ok (Some nodes)) = nodes
answered_if (Err e) = []

-- the nodes that a refused call hands back
abbrev pub handed_back : {X A : Type 0} → Result A (List X) → List X
handed_back (Ok a) = []
handed_back (Err nodes) = nodes

-- the nodes that are cut off, or the one that is handed back
abbrev pub cut_off : {X : Type 0} → Result (List X) X → List X
cut_off (Ok nodes) = nodes
cut_off (Err node) = node ∷ []
