-- Framed text: how frames are written one after another.
use Rattle.std.specs.Prelude.{ℕ, zero, suc, ◌/◌, ◌%◌, ◌-◌, Bool, true, not, List, [], ◌∷◌, ◌++◌, length, reverse, flat_map, nat_lt, if◌then◌else◌}
use Rattle.frame_head.specs.declared.out.Out.{Out}
use Rattle.frame_head.specs.declared.out.Out.TheVariants.{Length, Line, Delim, Raw}
use Rattle.frame_head.specs.Checks.{is_field}
use Rattle.frame_head.specs.Longest.{most_in_field}

-- the `k` lowest bytes of a number, the one that weighs least first
abbrev pub low_bytes : ℕ → ℕ → List ℕ
low_bytes zero n = []
low_bytes (suc k) n = n % 256 ∷ low_bytes k (n / 256)

-- a number in a field of `k` bytes; of one that doesn't fit, the lowest bytes
abbrev pub field_bytes : ℕ → Bool → ℕ → List ℕ
field_bytes k little n = if little then low_bytes k n else reverse (low_bytes k n)

-- what stands before a frame of `n` bytes
abbrev pub header_of : Out → ℕ → List ℕ
header_of (Length field little) n = field_bytes field little n
header_of (Line crlf) n = []
header_of (Delim mark) n = []
header_of Raw n = []

-- what stands behind a frame
abbrev pub ending_of : Out → List ℕ
ending_of (Length field little) = []
ending_of (Line crlf) = if crlf then 13 ∷ 10 ∷ [] else 10 ∷ []
ending_of (Delim mark) = mark
ending_of Raw = []

-- whether the field before a frame of `n` bytes can hold `n`, if there is one
abbrev pub fits_field : Out → ℕ → Bool
fits_field (Length field little) n = not (nat_lt (most_in_field field) n)
fits_field (Line crlf) n = true
fits_field (Delim mark) n = true
fits_field Raw n = true

-- whether a field, where there is one, is of 1, 2, 4 or 8 bytes
abbrev pub has_known_field : Out → Bool
has_known_field (Length field little) = is_field field
has_known_field (Line crlf) = true
has_known_field (Delim mark) = true
has_known_field Raw = true

-- a frame as it is written
abbrev pub framed : Out → List ℕ → List ℕ
framed out frame = header_of out (length frame) ++ frame ++ ending_of out

-- framed text: frames as they are written one after another
abbrev pub framed_text : Out → List (List ℕ) → List ℕ
framed_text out frames = flat_map (framed out) frames

-- how many frames of a list have their whole text within the first `n` bytes of the framed text
abbrev pub whole_frames : Out → List (List ℕ) → ℕ → ℕ
whole_frames out [] n = 0
whole_frames out (frame ∷ frames) n =
    if nat_lt n (length (framed out frame)) then 0 else suc (whole_frames out frames (n - length (framed out frame)))
