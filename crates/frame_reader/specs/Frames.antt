-- What a reader of frames has given.
use Rattle.std.specs.Prelude.{◌≡◌, ℕ, ◌+◌, ◌-◌, ◌^◌, ◌<◌, ◌≤◌, List, [], ◌∷◌, ◌++◌, length, Option, Some, None, Result, Ok, Err}
use Rattle.std.specs.Io.KnownBytes.{Consumes, IsAtEnd}
use Rattle.frame_head.specs.declared.codecs.Codec.{Codec}
use Rattle.frame_head.specs.Heads.{FramingUnit}
use Rattle.frame_head.specs.Units.{units, ended}
use Rattle.frame_rule.specs.declared.unit.FrameUnit.{FrameUnit}
use Rattle.frame_rule.specs.Units.{unit_of, units_of}
use Rattle.frame_rule.specs.Decoding.{Decoding}
use Rattle.frame_reader.specs.declared.filling.Came.{Came}
use Rattle.frame_reader.specs.declared.filling.Came.TheVariants as brought
use Rattle.frame_reader.specs.declared.reader.FrameError.{FrameError}
use Rattle.frame_reader.specs.declared.reader.FrameError.TheVariants.{Input, NoMemory, TooLong}
use Rattle.frame_reader.specs.declared.reader.Phase.{Phase}
use Rattle.frame_reader.specs.declared.reader.Phase.TheVariants as phase

-- a reader: its input and its decoder, the units that wait, how far the reading is, how many
-- bytes were read, and how many units were given
pub record FrameReading (R D : Type 0) : Type 0 where
  pub input : R
  pub decoder : D
  pub waiting : List FrameUnit
  pub phase : Phase
  pub read : ℕ
  pub given : ℕ

-- a read that brought bytes brought some
abbrev pub ComesWith : Came → ℕ → Type 0
ComesWith brought.Bytes count = 0 < count
ComesWith brought.End count = Unit {0}
ComesWith (brought.Failed kind) count = Unit {0}

-- where a read found the input's end, none of its known bytes is left
abbrev pub EndsAsSaid : Came → Option (List ℕ) → Type 0
EndsAsSaid brought.Bytes left = Unit {0}
EndsAsSaid brought.End left = IsAtEnd left
EndsAsSaid (brought.Failed kind) left = Unit {0}

-- how many units may still come at most
abbrev pub left_of : {R D : Type 0} → FrameReading R D → ℕ
left_of r = 2 ^ 62 - r.given

-- how many calls of a block may follow at most
abbrev pub ahead : Phase → ℕ → ℕ
ahead phase.Reading read = (2 ^ 62 - read) + 1
ahead (phase.Failed e) read = 0
ahead phase.Ended read = 0

-- behind an error the units that were found are all of the bytes that were read, or where memory was refused the first
abbrev pub FoundBefore : FrameError → List FramingUnit → List FramingUnit → Type 0
FoundBefore (Input kind) all found = all ≡ found
FoundBefore NoMemory all found = (missing : List FramingUnit) × (all ≡ found ++ missing)
FoundBefore TooLong all found = all ≡ found

module _ {D : Type 0} (state : D → Decoding) (stands : D → List ℕ → Type 0) where
  -- so many units were found: those of the bytes for which the decoder stands, while the reading goes on
  pub record Counts (p : Phase) (d : D) (n : ℕ) : Type 0 where
    pub most : n ≤ 2 ^ 62
    pub all : p ≡ phase.Reading → (h : List ℕ) × stands d h × (n ≡ length (units (state d).codec h))

  -- so far these units were found in the bytes `h`: those of a stream that goes on, or of one that is at its end
  abbrev pub SoFar : Phase → D → Codec → List ℕ → List FramingUnit → Type 0
  SoFar phase.Reading d codec h found = stands d h × ((state d).codec ≡ codec) × (units codec h ≡ found)
  SoFar (phase.Failed e) d codec h found = FoundBefore e (units codec h) found
  SoFar phase.Ended d codec h found = ended codec h ≡ found

  -- a decoder took some bytes in, and these units were added
  abbrev pub Takes : D → D → List ℕ → List FrameUnit → Phase → Type 0
  Takes old new bytes added next = (codec : Codec) (h : List ℕ) (given : List FramingUnit)
      → SoFar phase.Reading old codec h given → SoFar next new codec (h ++ bytes) (given ++ units_of added)

module _ {R D : Type 0} (remaining : R → Option (List ℕ)) (state : D → Decoding) (stands : D → List ℕ → Type 0) where
  -- since `left` was left of its input a reader gave these units: they and those that wait are the first of the bytes
  -- that it read, and all of them where it ended
  pub record HasGiven (left : Option (List ℕ)) (codec : Codec) (given : List FramingUnit) (r : FrameReading R D)
      : Type 0 where
    pub h : List ℕ
    pub came : Consumes left (remaining r.input) h
    pub found : SoFar state stands r.phase r.decoder codec h (given ++ units_of r.waiting)
    pub to_end : r.phase ≡ phase.Ended → IsAtEnd (remaining r.input)

  -- what was given is the same
  abbrev pub Stays : FrameReading R D → FrameReading R D → Type 0
  Stays old new = (left : Option (List ℕ)) (codec : Codec) (given : List FramingUnit)
      → HasGiven left codec given old → HasGiven left codec given new

  -- a unit was given next; or nothing waits, and the reading ended or failed with this error
  abbrev pub GivesNext : Option (List ℕ) → Codec → List FramingUnit → Result (Option FrameUnit) FrameError
      → FrameReading R D → Type 0
  GivesNext left codec given (Ok (Some u)) r = HasGiven left codec (given ++ unit_of u ∷ []) r
  GivesNext left codec given (Ok None) r =
      HasGiven left codec given r × (r.waiting ≡ []) × (r.phase ≡ phase.Ended)
  GivesNext left codec given (Err e) r =
      HasGiven left codec given r × (r.waiting ≡ []) × (r.phase ≡ phase.Failed e)
