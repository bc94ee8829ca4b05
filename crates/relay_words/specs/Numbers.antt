-- Numbers in words.
use Rattle.std.specs.Prelude.{ℕ, ◌+◌, ◌-◌, ◌*◌, ℤ, pos, ◌-ℤ◌, Bool, ◌&&◌, ◌||◌, ◌==◌, not, List, [], ◌∷◌, Option, Some, None, fold, length, nat_le, nat_lt, option_map, slice_index, if◌then◌else◌}
use Rattle.std.specs.List.{list_all}

abbrev pub is_digit : ℕ → Bool
is_digit b = nat_le 48 b && nat_le b 57

-- `0`, or at most 13 digits of which the first isn't `0`
abbrev pub is_number : List ℕ → Bool
is_number w = list_all is_digit w && nat_lt 0 (length w) && nat_le (length w) 13
    && (length w == 1 || not (slice_index w 0 == 48))

-- the number that decimal digits are
abbrev pub decimal : List ℕ → ℕ
decimal w = fold (λ n d. n * 10 + (d - 48)) 0 w

abbrev pub number : List ℕ → Option ℕ
number w = if is_number w then Some (decimal w) else None

abbrev pub within : ℕ → ℕ → Option ℕ → Option ℕ
within least greatest None = None
within least greatest (Some n) = if nat_le least n && nat_le n greatest then Some n else None

-- a number in its range
abbrev pub number_in : ℕ → ℕ → List ℕ → Option ℕ
number_in least greatest w = within least greatest (number w)

abbrev pub negated : ℕ → ℤ
negated n = pos 0 -ℤ pos n

-- a number from -65,536 to 65,536, with a leading `-` where it is below zero
abbrev pub adjustment : List ℕ → Option ℤ
adjustment [] = None
adjustment (x ∷ w) = if x == 45 then option_map negated (number_in 0 65536 w)
    else option_map (λ n. pos n) (number_in 0 65536 (x ∷ w))
