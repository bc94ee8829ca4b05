-- What a call makes of the state of a source, a sink or a host.
use Rattle.std.specs.Prelude.{◌≡◌, ℕ, ◌+◌, List, [], ◌∷◌, ◌++◌, Result, Ok, Err, is_err, if◌then◌else◌, drop, max}
use Rattle.relay_ports.specs.Told.{counted, calls_after, grown, prefixed, taken_out, without_number}
use Rattle.relay_ports.specs.States.{SourceState, SinkState, HostState}
use Rattle.relay_ports.specs.declared.failures.NotOpened.{NotOpened}
use Rattle.relay_ports.specs.declared.failures.NotOpened.TheVariants.{Failed, NoMemory}

-- a source's call on a slice of `size` bytes gave these bytes, which stood in front of those that it has left
abbrev pub Gave : ℕ → List ℕ → SourceState → SourceState → Type 0
Gave size bytes old new =
    (new ≡ record old {
      given = grown old.given bytes;
      left = new.left;
      after = calls_after old.faults old.after;
      longest = max old.longest size;
    })
    × (old.left ≡ prefixed bytes new.left)

-- a source's call on a slice of `size` bytes failed
abbrev pub ReadFailed : ℕ → SourceState → SourceState → Type 0
ReadFailed size old new = new ≡ record old {
  faults = counted old.faults;
  after = calls_after old.faults old.after;
  longest = max old.longest size;
}

-- a source's call left the slice behind the bytes that it gave as it was; all of it where it failed
abbrev pub KeepsBehind : {E : Type 0} → Result ℕ E → List ℕ → List ℕ → Type 0
KeepsBehind (Ok n) old new = drop n new ≡ drop n old
KeepsBehind (Err e) old new = new ≡ old

-- a sink's call took these bytes
abbrev pub Took : List ℕ → SinkState → SinkState → Type 0
Took bytes old new = new ≡ record old { written = grown old.written bytes; after = calls_after old.faults old.after }

-- a sink's call failed
abbrev pub WriteFailed : SinkState → SinkState → Type 0
WriteFailed old new = new ≡ record old { faults = counted old.faults; after = calls_after old.faults old.after }

-- an input was opened under this name
abbrev pub OpenedInput : List ℕ → HostState → HostState → Type 0
OpenedInput name old new = new ≡ record old { open_inputs = prefixed (name ∷ []) old.open_inputs }

-- an output was made under this name
abbrev pub CreatedOutput : List ℕ → HostState → HostState → Type 0
CreatedOutput name old new = new ≡ record old { open_outputs = prefixed (name ∷ []) old.open_outputs }

-- nothing was opened or made under this name: the outside refused it, which is counted, or memory was refused
abbrev pub Unopened : NotOpened → List ℕ → HostState → HostState → Type 0
Unopened Failed name old new = new ≡ record old { faults = counted old.faults; refused = grown old.refused (name ∷ []) }
Unopened NoMemory name old new = new ≡ old

-- the input of this name was handed back in this state
abbrev pub FinishedInput : List ℕ → SourceState → HostState → HostState → Type 0
FinishedInput name s old new = new ≡ record old {
  open_inputs = taken_out name old.open_inputs;
  inputs = old.inputs ++ record { name = name; state = s } ∷ [];
}

-- the output of this name was handed back in this state, with this answer; a finishing that failed is counted
abbrev pub FinishedOutput : {X E : Type 0} → Result X E → List ℕ → SinkState → HostState → HostState → Type 0
FinishedOutput result name w old new = new ≡ record old {
  faults = if is_err result then counted old.faults else old.faults;
  open_outputs = taken_out name old.open_outputs;
  outputs = old.outputs ++ record { name = name; state = w; failed = is_err result } ∷ [];
}

-- a block was lent; its number is how often one was lent before
abbrev pub LentBlock : HostState → HostState → Type 0
LentBlock old new = new ≡ record old { lent = old.lent ++ old.lends ∷ []; lends = old.lends + 1 }

-- the block of this number came back
abbrev pub ReturnedBlock : ℕ → HostState → HostState → Type 0
ReturnedBlock number old new = new ≡ record old { lent = without_number number old.lent }

-- the report is now in this state
abbrev pub SetReport : SinkState → HostState → HostState → Type 0
SetReport w old new = new ≡ record old { report = w }
