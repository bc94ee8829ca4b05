-- A list whose first stands by itself.
use Rattle.std.specs.Prelude.{◌≡◌, List, [], ◌∷◌, ◌++◌, Option, Some, None, Result, MatchResult}

module _ {X : Type 0} where
  abbrev pub listed : Option X → List X → List X
  listed None rest = rest
  listed (Some x) rest = x ∷ rest

  -- there is a first, or there is none at all
  abbrev pub IsListed : Option X → List X → Type 0
  IsListed None rest = rest ≡ []
  IsListed (Some x) rest = Unit {0}

-- more was added at a list's end; where that is refused, what was given comes back, and the list is as it was
abbrev pub AddsTo : {X B : Type 0} → B → List X → List X → List X → Result (Unit {0}) B → Type 0
AddsTo given more old new answer = MatchResult answer (λ _. new ≡ old ++ more) (λ back. (back ≡ given) × (new ≡ old))
