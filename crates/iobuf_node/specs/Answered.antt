-- What a call that may give a storage back answers.
use Rattle.std.specs.Prelude.{List, [], ◌∷◌, Option, Some, None, Result, Ok, Err}
use Rattle.buffer_model.specs.Minted.{Numbers}
use Rattle.buffer_model.specs.Stake.{Stake, held, KeepsTotalsBeside}
use Rattle.buffer_model.specs.Segment.{Segment}
use Rattle.storage.specs.Back.{stakes_if}
use Rattle.storage.specs.declared.back.Back.{Back}

-- a call that had this node, and has these things afterwards, keeps totals beside what its mint numbered in it
abbrev pub KeepsFor : {O : Type 0} → Numbers → Numbers → Segment O → List (Stake O) → Type 0
KeepsFor old new before exit = KeepsTotalsBeside old new (held before.share ∷ []) exit

-- what a call has of storages by its answer
abbrev pub answered : {O E : Type 0} → Result (Option (Back O)) E → List (Stake O)
answered (Ok back) = stakes_if back
answered (Err e) = []

-- the same of a clone
abbrev pub cloned : {O E : Type 0} → Result (Segment O) E → List (Stake O)
cloned (Ok node) = held node.share ∷ []
cloned (Err e) = []

-- the same of a share that may be there
abbrev pub held_if : {O : Type 0} → Option (Segment O) → List (Stake O)
held_if None = []
held_if (Some node) = held node.share ∷ []

abbrev pub shared : {O E : Type 0} → Result (Option (Segment O)) E → List (Stake O)
shared (Ok share) = held_if share
shared (Err e) = []

-- the same of a node that comes back in either case
abbrev pub either_way : {O : Type 0} → Result (Segment O) (Segment O) → List (Stake O)
either_way (Ok node) = held node.share ∷ []
either_way (Err node) = held node.share ∷ []
