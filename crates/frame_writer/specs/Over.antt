-- Which frames are refused.
use Rattle.std.specs.Prelude.{ℕ, List, [], ◌∷◌, Option, Some, None, length, nat_lt, if◌then◌else◌}
use Rattle.frame_head.specs.declared.out.Out.{Out}
use Rattle.frame_head.specs.declared.out.Out.TheVariants.{Length, Line, Delim, Raw}
use Rattle.frame_head.specs.Longest.{most_in_field}
use Rattle.frame_writer.specs.declared.over.FrameOver.{FrameOver}

-- why a frame of `size` bytes is refused by a field that holds lengths up to `most`, if it is
abbrev pub over_most : ℕ → ℕ → Option FrameOver
over_most most size = if nat_lt most size then Some (record { size = size; most = most }) else None

-- why a frame of so many bytes is refused, if it is
abbrev pub over_of : Out → ℕ → Option FrameOver
over_of (Length field little) size = over_most (most_in_field field) size
over_of (Line crlf) size = None
over_of (Delim mark) size = None
over_of Raw size = None

-- the first of two refusals that is there
abbrev pub first_of : Option FrameOver → Option FrameOver → Option FrameOver
first_of (Some f) g = Some f
first_of None g = g

-- the refusal of the first frame of a list that is refused
abbrev pub first_over : Out → List (List ℕ) → Option FrameOver
first_over out [] = None
first_over out (frame ∷ frames) = first_of (over_of out (length frame)) (first_over out frames)
