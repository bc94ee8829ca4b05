-- What nodes that are given back hand back.
use Rattle.std.specs.Prelude.{ℕ, List, [], Option, Result, Ok, Err}
use Rattle.std.specs.List.{AllZip}
use Rattle.buffer_model.specs.Segment.{Segment, hold_of}
use Rattle.buffer_model.specs.Stake.{Stake}
use Rattle.storage.specs.declared.back.Back.{Back}
use Rattle.storage.specs.Back.{GivesBack, stakes_in}

-- nodes are given back, each once and in order, and this is what they hand back
abbrev pub HandBack : {O : Type 0} → (O → ℕ) → (O → Option (List ℕ)) → List (Segment O) → List (Back O) → Type 0
HandBack runs last nodes backs = AllZip (λ s b. GivesBack runs last (hold_of s) b) nodes backs

-- what a call has of storages by the list that it answers
abbrev pub returned : {O E : Type 0} → Result (List (Back O)) E → List (Stake O)
returned (Ok backs) = stakes_in backs
returned (Err e) = []
