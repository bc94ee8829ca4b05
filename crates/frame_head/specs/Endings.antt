-- The endings of lines and of delimited frames.
use Rattle.std.specs.Prelude.{◌≡◌, ℕ, ◌<◌, ◌≤◌, List, [], ◌∷◌, ◌++◌, Option, Some, None, length, take, nat_lt, if◌then◌else◌, nat_eq}
use Rattle.std.specs.List.{ends_with, Contains}
use Rattle.frame_head.specs.declared.codecs.LineEnd.{LineEnd}
use Rattle.frame_head.specs.declared.codecs.LineEnd.TheVariants.{Any, Lf, Crlf}

-- the endings of lines
abbrev pub line_endings : LineEnd → List (List ℕ)
line_endings Any = (10 ∷ []) ∷ (13 ∷ 10 ∷ []) ∷ []
line_endings Lf = (10 ∷ []) ∷ []
line_endings Crlf = (13 ∷ 10 ∷ []) ∷ []

-- the longer of an ending and another that may be there
abbrev pub longer : List ℕ → Option (List ℕ) → Option (List ℕ)
longer m None = Some m
longer m (Some o) = if nat_lt (length m) (length o) then Some o else Some m

-- the longest of some endings that stands at the end of a list
abbrev pub longest_ending : List (List ℕ) → List ℕ → Option (List ℕ)
longest_ending [] s = None
longest_ending (m ∷ ms) s = if ends_with nat_eq s m then longer m (longest_ending ms s) else longest_ending ms s

-- `front` with the ending that it has, or else what is found behind it
abbrev pub ended_or : List ℕ → Option (List ℕ) → Option (List ℕ × List ℕ) → Option (List ℕ × List ℕ)
ended_or front (Some ending) found = Some (front, ending)
ended_or front None found = found

-- the shortest front of `front ++ s`, longer than `front`, that has one of the endings at its end, with the longest
-- such ending
abbrev pub first_ended : List (List ℕ) → List ℕ → List ℕ → Option (List ℕ × List ℕ)
first_ended endings front [] = None
first_ended endings front (x ∷ s) =
    ended_or (front ++ x ∷ []) (longest_ending endings (front ++ x ∷ [])) (first_ended endings (front ++ x ∷ []) s)

-- a list ends with another
abbrev pub EndsWith : List ℕ → List ℕ → Type 0
EndsWith s m = (front : List ℕ) × (s ≡ front ++ m)

-- a list ends with none of the endings
abbrev pub NoneEnds : List (List ℕ) → List ℕ → Type 0
NoneEnds endings s = (m : List ℕ) → Contains endings m → EndsWith s m → ⊥

-- `front` is the least front of `s` that ends with one of the endings, and `ending` the longest with which it ends
pub record IsFirstEnding (endings : List (List ℕ)) (s front ending : List ℕ) : Type 0 where
  pub is_front : (behind : List ℕ) × (s ≡ front ++ behind)
  pub among : Contains endings ending
  pub ends : EndsWith front ending
  pub longest : (m : List ℕ) → Contains endings m → EndsWith front m → length m ≤ length ending
  pub least : (n : ℕ) → n < length front → NoneEnds endings (take n s)
