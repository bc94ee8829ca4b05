-- What the forms in memory are seen as, and what each field becomes at a call.
use Rattle.std.specs.Prelude.{◌≡◌, ℕ, ◌≤◌, ◌⊎◌, List, [], ◌++◌, Some, Contains, length, take, drop, max}
use Rattle.relay_ports.specs.Told.{counted, calls_after}
use Rattle.relay_ports.specs.States.{SourceState, SinkState}

-- a source over bytes: those that it gave and those that it has left, how many it gives a call at most, how often
-- it was called, the numbers of the calls that fail, how many failed, how many came after the first that failed, and
-- the length of the longest slice that a call was handed
pub record Feeding : Type 0 where
  pub given : List ℕ
  pub left : List ℕ
  pub most : ℕ
  pub calls : ℕ
  pub fails : List ℕ
  pub faults : ℕ
  pub after : ℕ
  pub longest : ℕ

-- a sink over bytes: those that it took, how many it takes in all, how often it was called with a piece that isn't
-- empty, the numbers of the calls that fail, how many failed, and how many came after the first that failed
pub record Filling : Type 0 where
  pub written : List ℕ
  pub stop_at : ℕ
  pub calls : ℕ
  pub fails : List ℕ
  pub faults : ℕ
  pub after : ℕ

-- what is known of a source over bytes, which tells them
abbrev pub source_state : Feeding → SourceState
source_state s = record {
  given = Some s.given;
  left = Some s.left;
  faults = s.faults;
  after = s.after;
  longest = s.longest;
}

-- what is known of a sink over bytes, which tells them
abbrev pub sink_state : Filling → SinkState
sink_state s = record { written = Some s.written; faults = s.faults; after = s.after }

-- a source that wasn't called yet
abbrev pub new_source : List ℕ → ℕ → List ℕ → Feeding
new_source bytes most fails =
    record { given = []; left = bytes; most = most; calls = 0; fails = fails; faults = 0; after = 0; longest = 0 }

-- a sink that wasn't called yet
abbrev pub new_sink : ℕ → List ℕ → Filling
new_sink stop_at fails = record { written = []; stop_at = stop_at; calls = 0; fails = fails; faults = 0; after = 0 }

-- no call of a source was made
abbrev pub IsUnused : Feeding → Type 0
IsUnused s = (s.given ≡ []) × (s.calls ≡ 0) × (s.faults ≡ 0) × (s.after ≡ 0) × (s.longest ≡ 0)

-- no call of a sink was made, but for calls with empty pieces
abbrev pub IsUnwritten : Filling → Type 0
IsUnwritten s = (s.written ≡ []) × (s.calls ≡ 0) × (s.faults ≡ 0) × (s.after ≡ 0)

-- a source whose call on a slice of `size` bytes gave `n` bytes
abbrev pub after_read : ℕ → ℕ → Feeding → Feeding
after_read size n s = record s {
  given = s.given ++ take n s.left;
  left = drop n s.left;
  calls = counted s.calls;
  after = calls_after s.faults s.after;
  longest = max s.longest size;
}

-- a source whose call on a slice of `size` bytes failed
abbrev pub after_failed_read : ℕ → Feeding → Feeding
after_failed_read size s = record s {
  calls = counted s.calls;
  faults = counted s.faults;
  after = calls_after s.faults s.after;
  longest = max s.longest size;
}

-- a sink whose call took these bytes
abbrev pub after_write : List ℕ → Filling → Filling
after_write bytes s =
    record s { written = s.written ++ bytes; calls = counted s.calls; after = calls_after s.faults s.after }

-- a sink whose call failed
abbrev pub after_failed_write : Filling → Filling
after_failed_write s =
    record s { calls = counted s.calls; faults = counted s.faults; after = calls_after s.faults s.after }

-- the next call with a piece that isn't empty fails: its number is among those that do, or all was taken
abbrev pub IsFull : Filling → Type 0
IsFull s = Contains s.fails s.calls ⊎ (s.stop_at ≤ length s.written)
