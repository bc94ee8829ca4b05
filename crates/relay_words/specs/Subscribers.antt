-- Words for subscribers.
use Rattle.std.specs.Prelude.{ℕ, Bool, ◌==◌, List, Option, Some, None, bytes_eq, codes, drop, length, nat_le, option_map, if◌then◌else◌}
use Rattle.std.specs.List.{before_first}
use Rattle.std.specs.Option.{is_some}
use Rattle.relay_words.specs.declared.subscribers.SubWord.{SubWord}
use Rattle.relay_words.specs.Numbers.{number}
use Rattle.relay_words.specs.Names.{is_name}
use Rattle.relay_words.specs.Parts.{part_value, with}

-- a word up to the first such byte, and from it on
abbrev pub before : ℕ → List ℕ → List ℕ
before byte w = before_first (λ b. b == byte) w

abbrev pub from : ℕ → List ℕ → List ℕ
from byte w = drop (length (before byte w)) w

-- the name of a subscriber: what stands before its `@`
abbrev pub name_part : List ℕ → List ℕ
name_part w = before 64 w

abbrev pub ordered : Option ℕ → Option ℕ → Option (ℕ × Option ℕ)
ordered first until = with first (λ j. with until (λ k. if nat_le j k then Some (j, Some k) else None))

-- `J`, or `J..K` with J at most K
abbrev pub range_of : List ℕ → Option (ℕ × Option ℕ)
range_of w =
    if length (from 46 w) == 0 then option_map (λ j. (j, None)) (number w)
    else ordered (number (before 46 w)) (with (part_value (codes "..") (from 46 w)) number)

-- the places behind a subscriber's name: from 0 on where there are none
abbrev pub places_of : List ℕ → Option (ℕ × Option ℕ)
places_of w = if length w == 0 then Some (0, None) else range_of (drop 1 w)

abbrev pub sub_places : List ℕ → Option (ℕ × Option ℕ)
sub_places w = if is_name (name_part w) then places_of (from 64 w) else None

-- `NAME`, `NAME@J` or `NAME@J..K`
abbrev pub is_sub : List ℕ → Bool
is_sub w = is_some (sub_places w)

abbrev pub sub_of : List ℕ → Option SubWord
sub_of w = option_map (λ p. record { name = name_part w; first = p.0; until = p.1 }) (sub_places w)

abbrev pub same_name : List ℕ → List ℕ → Bool
same_name w v = bytes_eq (name_part w) (name_part v)
