-- Names in words.
use Rattle.std.specs.Prelude.{ℕ, Bool, false, ◌&&◌, ◌||◌, ◌==◌, List, [], ◌∷◌, Option, Some, None, length, nat_le, if◌then◌else◌}
use Rattle.std.specs.List.{list_all}
use Rattle.relay_words.specs.Numbers.{is_digit}

abbrev pub is_lower : ℕ → Bool
is_lower b = nat_le 97 b && nat_le b 122

-- a lower-case letter, a digit, `_`, `.` or `-`
abbrev pub is_name_byte : ℕ → Bool
is_name_byte b = is_lower b || is_digit b || b == 95 || b == 46 || b == 45

-- a lower-case letter, and at most 63 more bytes that a name may have
abbrev pub is_name : List ℕ → Bool
is_name [] = false
is_name (x ∷ w) = is_lower x && list_all is_name_byte w && nat_le (length w) 63

abbrev pub name_of : List ℕ → Option (List ℕ)
name_of w = if is_name w then Some w else None
