-- What a stream can begin with, and what can stand in it: the words in which a codec's case is said.
use Rattle.std.specs.Prelude.{ℕ, ◌+◌, ◌-◌, ◌≤◌, ℤ, Bool, List, Option, Some, None, length, take, drop, nat_lt, if◌then◌else◌}
use Rattle.frame_head.specs.declared.codecs.FaultKind.{FaultKind}
use Rattle.frame_head.specs.declared.codecs.FaultKind.TheVariants.{TooSmall, TooLong, StripOver}
use Rattle.frame_head.specs.Numbers.{number_in_order, adjusted}

-- more bytes are needed; or a frame of these bytes is there, or a fault, and so many bytes are used by it, which a
-- fault may use before they are there
pub data Head : Type 0 where
  More : Head
  Whole : List ℕ → ℕ → Head
  Bad : FaultKind → ℕ → Head

-- a head that isn't `More` uses `n` bytes at least
abbrev pub UsesAtLeast : ℕ → Head → Type 0
UsesAtLeast n More = Unit {0}
UsesAtLeast n (Whole bytes used) = n ≤ used
UsesAtLeast n (Bad kind used) = n ≤ used

-- a frame with its bytes, or a fault, and the offset at which it begins
pub data FramingUnit : Type 0 where
  FrameAt : ℕ → List ℕ → FramingUnit
  FaultAt : ℕ → FaultKind → FramingUnit

-- a frame that ends at `t`, of which the first `strip` bytes aren't handed on
abbrev pub sized : ℕ → ℕ → ℕ → List ℕ → Head
sized strip max t s =
    if nat_lt max t then Bad TooLong t
    else if nat_lt t strip then Bad StripOver t
    else if nat_lt (length s) t then More
    else Whole (drop strip (take t s)) t

-- a frame whose length field ends at `e`, where the length with its adjustment is `n`
abbrev pub measured : ℕ → ℕ → ℕ → Option ℕ → List ℕ → Head
measured strip max e None s = Bad TooSmall e
measured strip max e (Some n) s = sized strip max (n + e) s

abbrev pub length_head : ℕ → ℕ → ℤ → ℕ → Bool → ℕ → List ℕ → Head
length_head field offset adjust strip little max s =
    if nat_lt (length s) (offset + field) then More
    else measured strip max (offset + field) (adjusted (number_in_order little (take field (drop offset s))) adjust) s

-- a frame with its ending, which are `front`
abbrev pub terminated : Bool → ℕ → Option (List ℕ × List ℕ) → Head
terminated strip max None = More
terminated strip max (Some (front, ending)) =
    let content = take (length front - length ending) front in
    if nat_lt max (length content) then Bad TooLong (length front)
    else if strip then Whole content (length front)
    else Whole front (length front)
