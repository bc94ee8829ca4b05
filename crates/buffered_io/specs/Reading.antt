-- What a reading of a source comes to.
use Rattle.std.specs.Prelude.{◌≡◌, ℕ, ◌<◌, ◌≤◌, List, [], ◌∷◌, length, max, IfSome}
use Rattle.relay_ports.specs.States.{SourceState}
use Rattle.relay_ports.specs.Told.{counted, grown, prefixed}
use Rattle.buffered_io.specs.declared.reading.Filled.{Filled}
use Rattle.buffered_io.specs.declared.reading.Filled.TheVariants.{Full, Ended, Broken}
use Rattle.buffered_io.specs.declared.reading.Stop.{Stop}
use Rattle.buffered_io.specs.declared.reading.Stop.TheVariants.{End, Failure, Limit}

-- by calls on slices of at most `size` bytes a source gave these bytes, and no call failed; a source that never
-- failed has no call after a failure
pub record Read (size : ℕ) (bytes : List ℕ) (s t : SourceState) : Type 0 where
  pub state : t ≡ record s { given = grown s.given bytes; left = t.left; after = t.after; longest = t.longest }
  pub left : s.left ≡ prefixed bytes t.left
  pub after : s.faults ≡ 0 → t.after ≡ s.after
  pub longest : t.longest ≤ max s.longest size

-- by calls on slices of at most `size` bytes a source gave these bytes, and then a call failed, which was the last
pub record ReadFailing (size : ℕ) (bytes : List ℕ) (s t : SourceState) : Type 0 where
  pub state : t ≡ record s {
    given = grown s.given bytes;
    left = t.left;
    faults = counted s.faults;
    after = t.after;
    longest = t.longest;
  }
  pub left : s.left ≡ prefixed bytes t.left
  pub after : s.faults ≡ 0 → t.after ≡ s.after
  pub longest : t.longest ≤ max s.longest size

-- a source has nothing left, where it tells that
abbrev pub IsAtEnd : SourceState → Type 0
IsAtEnd s = IfSome s.left (λ xs. xs ≡ [])

-- a block of so many bytes was read, or less where the source ended or failed; no call was on a longer slice
abbrev pub ReadsBlock : Filled → ℕ → List ℕ → SourceState → SourceState → Type 0
ReadsBlock Full size bytes s t = Read size bytes s t × (length bytes ≡ size)
ReadsBlock Ended size bytes s t = Read size bytes s t × IsAtEnd t × (length bytes < size)
ReadsBlock Broken size bytes s t = ReadFailing size bytes s t × (length bytes < size)

-- a source was asked for one byte behind the last that may be read
abbrev pub Probes : Stop → SourceState → SourceState → Type 0
Probes End s t = Read 1 [] s t × IsAtEnd t
Probes Failure s t = ReadFailing 1 [] s t
Probes Limit s t = (x : ℕ) × Read 1 (x ∷ []) s t
