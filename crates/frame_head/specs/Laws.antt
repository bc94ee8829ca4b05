-- What holds of the grammar.
use Rattle.std.specs.Prelude.{◌≡◌, ℕ, ◌<◌, List, [], ◌∷◌, ◌++◌, None, MatchOption, length, take, drop, flat_map}
use Rattle.std.specs.List.{Contains}
use Rattle.frame_head.specs.declared.codecs.Codec.{Codec}
use Rattle.frame_head.specs.Codecs.{head, fault_of}
use Rattle.frame_head.specs.Endings.{NoneEnds, IsFirstEnding, first_ended}
use Rattle.frame_head.specs.Heads.{More, FramingUnit}
use Rattle.frame_head.specs.Units.{units, ended}

-- `longer` is `shorter` with something added at its end
abbrev pub Extends : List FramingUnit → List FramingUnit → Type 0
Extends shorter longer = (added : List FramingUnit) × (longer ≡ shorter ++ added)

-- more input changes no unit that is there
abbrev pub StableUnits : Type 0
StableUnits = (codec : Codec) → fault_of codec ≡ None → (s r : List ℕ)
    → ((head codec s ≡ More → ⊥) → head codec (s ++ r) ≡ head codec s) × Extends (units codec s) (units codec (s ++ r))

-- what a piece adds behind `h`: the units of the longer stream that weren't units before
abbrev pub added_by : Codec → List ℕ → List ℕ → List FramingUnit
added_by codec h p = drop (length (units codec h)) (units codec (h ++ p))

-- what some pieces behind `h` add, each in turn
abbrev pub added_in_turn : Codec → List ℕ → List (List ℕ) → List FramingUnit
added_in_turn codec h [] = []
added_in_turn codec h (p ∷ pieces) = added_by codec h p ++ added_in_turn codec (h ++ p) pieces

-- what the end of a stream adds
abbrev pub added_at_end : Codec → List ℕ → List FramingUnit
added_at_end codec s = drop (length (units codec s)) (ended codec s)

-- whatever the cutting of a stream: what its pieces add, and then its end, are its units at the end
abbrev pub AnyCutting : Type 0
AnyCutting = (codec : Codec) → fault_of codec ≡ None → (pieces : List (List ℕ))
    → added_in_turn codec [] pieces ++ added_at_end codec (flat_map (λ p. p) pieces) ≡ ended codec
    (flat_map (λ p. p) pieces)

-- what is found in a list: its least front that ends with one of some endings, and the longest of them there; or no
-- front ends with one
abbrev pub FindsFirstEnding : Type 0
FindsFirstEnding = (endings : List (List ℕ)) → ((m : List ℕ) → Contains endings m → 0 < length m) → (s : List ℕ)
    → MatchOption (first_ended endings [] s) ((n : ℕ)
    → NoneEnds endings (take n s)) (λ found. IsFirstEnding endings s found.0 found.1)
