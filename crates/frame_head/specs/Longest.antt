-- How long a frame can be, by the parts of a codec.
use Rattle.std.specs.Prelude.{ℕ, ◌+◌, ◌-◌, ◌^◌, ℤ, Bool, List, [], ◌∷◌, Option, Some, None, length, min, max, if◌then◌else◌}
use Rattle.frame_head.specs.Numbers.{adjusted}

-- the greatest number that a field of so many bytes can hold
abbrev pub most_in_field : ℕ → ℕ
most_in_field field = 256 ^ field - 1

-- the length of the longest of some endings
abbrev pub longest_mark : List (List ℕ) → ℕ
longest_mark [] = 0
longest_mark (m ∷ ms) = max (length m) (longest_mark ms)

-- a frame that ends at `end` at most and at `greatest` at most, without its first `strip` bytes
abbrev pub longest_up_to : ℕ → ℕ → Option ℕ → ℕ
longest_up_to greatest strip None = 0
longest_up_to greatest strip (Some end) = min greatest end - strip

abbrev pub longest_length : ℕ → ℕ → ℤ → ℕ → ℕ → ℕ
longest_length field offset adjust strip greatest =
    longest_up_to greatest strip (adjusted (most_in_field field + (offset + field)) adjust)

-- a frame of at most `greatest` bytes, with its ending where that isn't stripped
abbrev pub longest_ended : Bool → ℕ → List (List ℕ) → ℕ
longest_ended strip greatest endings = if strip then greatest else greatest + longest_mark endings
