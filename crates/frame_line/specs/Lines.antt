-- Where lines end.
use Rattle.std.specs.Prelude.{ℕ, Bool, List, [], ◌∷◌, Option, Some, None, if◌then◌else◌, nat_eq}
use Rattle.std.specs.List.{ends_with}
use Rattle.frame_head.specs.declared.codecs.LineEnd.{LineEnd}
use Rattle.frame_head.specs.declared.codecs.LineEnd.TheVariants.{Any, Lf, Crlf}

-- whether the last of some bytes is a carriage return
abbrev pub ends_in_return : List ℕ → Bool
ends_in_return s = ends_with nat_eq s (13 ∷ [])

-- the ending of a line at a line feed, by whether a carriage return stands before that
abbrev pub ending_of : LineEnd → Bool → Option (List ℕ)
ending_of Lf b = Some (10 ∷ [])
ending_of Any b = if b then Some (13 ∷ 10 ∷ []) else Some (10 ∷ [])
ending_of Crlf b = if b then Some (13 ∷ 10 ∷ []) else None

-- its size
abbrev pub size_of_ending : LineEnd → Bool → Option ℕ
size_of_ending Lf b = Some 1
size_of_ending Any b = if b then Some 2 else Some 1
size_of_ending Crlf b = if b then Some 2 else None
