-- A chain that is read.
use Rattle.std.specs.Prelude.{ℕ, ◌+◌, ◌-◌, List, length, take, drop}
use Rattle.buffer_model.specs.Segment.{Segment, bytes_of}

-- the bytes, and how many of them were passed
pub record Reading : Type 0 where
  pub bytes : List ℕ
  pub place : ℕ

-- the bytes from the place on
abbrev pub rest_of : Reading → List ℕ
rest_of r = drop r.place r.bytes

-- so many more were passed
abbrev pub moved : ℕ → Reading → Reading
moved n r = record r { place = r.place + n }

-- so many fewer were passed
abbrev pub moved_back : ℕ → Reading → Reading
moved_back n r = record r { place = r.place - n }

-- the place that lies so many bytes behind the start of a node
abbrev pub place_in : {O : Type 0} → List (Segment O) → ℕ → ℕ → ℕ
place_in nodes node at = length (bytes_of (take node nodes)) + at
