-- What a run read of its input. Nothing here speaks of its report.
use Rattle.std.specs.Prelude.{◌≡◌, ◌⊎◌, ℕ, ◌+◌, ◌≤◌, Bool, true, false, ◌&&◌, ◌==◌, nat_lt, nat_le, if◌then◌else◌}
use Rattle.std.specs.Prelude.{List, [], ◌∷◌, Option, Some, None, IfSome, length, take}
use Rattle.relay_ports.specs.States.{SourceState}
use Rattle.buffered_io.specs.Reading.{IsAtEnd}
use Rattle.relay_app.specs.declared.status.Status.{Status}
use Rattle.relay_app.specs.declared.status.Status.TheVariants.{Stream, Source, Limit, Memory}
use Rattle.relay_app.specs.declared.stream_fault.StreamFault.{StreamFault}

-- what a run took in: how many bytes it may read, the bytes that its input gave, and the state in which that was left
pub record Intake : Type 0 where
  pub limit : ℕ
  pub given : List ℕ
  pub input : SourceState

abbrev pub intake : ℕ → List ℕ → SourceState → Intake
intake limit given t = record { limit = limit; given = given; input = t }

-- what was read are the bytes up to the limit
abbrev pub bytes_read : Intake → List ℕ
bytes_read i = take i.limit i.given

-- nothing is known to be left
abbrev pub none_left : Option (List ℕ) → Bool
none_left None = true
none_left (Some []) = true
none_left (Some (x ∷ xs)) = false

-- what was read is the whole input: no call failed, no more than the limit was there, and nothing is left
abbrev pub is_whole : Intake → Bool
is_whole i = (i.input.faults == 0) && nat_le (length i.given) i.limit && none_left i.input.left

-- the status of a fault, or another where there is none
abbrev pub stream_or : Status → Option StreamFault → Status
stream_or other None = other
stream_or other (Some f) = Stream f.at f.kind

-- the status of a run that came to its end: the first that holds of a failed input, more than the limit, this fault
-- in what was read, and what comes behind these
abbrev pub status_of : Intake → Option StreamFault → Status → Status
status_of i fault next =
    if nat_lt 0 i.input.faults then Source
    else if nat_lt i.limit (length i.given) then Limit
    else stream_or next fault

-- so an input was read that was never called before, in a run with this status
pub record ReadsInput (i : Intake) (status : Status) : Type 0 where
  pub told : IfSome i.input.given (λ xs. xs ≡ i.given)
  -- one byte behind the limit was asked for at most
  pub most : length i.given ≤ i.limit + 1
  -- after a failure nothing more was read
  pub after : i.input.after ≡ 0
  -- where no call failed and no more than the limit was there, the input was read to its end, or memory was refused
  pub to_end : i.input.faults ≡ 0 → length i.given ≤ i.limit → (status ≡ Memory) ⊎ IsAtEnd i.input
