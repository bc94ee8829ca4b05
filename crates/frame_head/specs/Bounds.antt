-- How long frames are.
use Rattle.std.specs.Prelude.{◌≡◌, ℕ, ◌<◌, ◌≤◌, List, None, All, length}
use Rattle.frame_head.specs.declared.codecs.Codec.{Codec}
use Rattle.frame_head.specs.Codecs.{fault_of, longest_of}
use Rattle.frame_head.specs.Heads.{FramingUnit, FrameAt, FaultAt}
use Rattle.frame_head.specs.Units.{units, ended}

-- a unit that is no frame of more than `n` bytes
abbrev pub IsWithin : ℕ → FramingUnit → Type 0
IsWithin n (FrameAt at bytes) = length bytes ≤ n
IsWithin n (FaultAt at kind) = Unit {0}

-- no frame of a codec that is passed is longer than its longest, whatever bytes the stream has
abbrev pub BoundedFrames : Type 0
BoundedFrames = (codec : Codec) (s : List ℕ) → fault_of codec ≡ None → All (λ b. b < 256) s
    → All (IsWithin (longest_of codec)) (units codec s) × All (IsWithin (longest_of codec)) (ended codec s)
