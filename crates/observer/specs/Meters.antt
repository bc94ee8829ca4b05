-- A sink, and how much it took since a mark.
use Rattle.std.specs.Prelude.{◌≡◌, ℕ, ◌-◌, ◌^◌, ◌≤◌, min, List, [], ◌∷◌, Option, Some, None, length, IfSome}
use Rattle.relay_ports.specs.States.{SinkState}
use Rattle.relay_ports.specs.Told.{prefixed}

-- the sink's state, how much it had at the mark, and the count of what it took since
pub record Meter : Type 0 where
  pub sink : SinkState
  pub base : ℕ
  pub taken : ℕ

abbrev pub meter : SinkState → ℕ → ℕ → Meter
meter sink base taken = record { sink = sink; base = base; taken = taken }

-- how much was written, where that is told
abbrev pub size_of : Option (List ℕ) → ℕ
size_of None = 0
size_of (Some bytes) = length bytes

abbrev pub size_told : SinkState → ℕ
size_told w = size_of w.written

-- a sink at the mark
abbrev pub meter_anew : SinkState → Meter
meter_anew w = meter w (size_told w) 0

-- the count is of what was taken since the mark; it stands still at the end of 128 bits
abbrev pub CountsTaken : Meter → Type 0
CountsTaken m =
    IfSome m.sink.written (λ bytes. (m.base ≤ length bytes) × (m.taken ≡ min (length bytes - m.base) (2 ^ 128 - 1)))

-- the state of a sink with how much it had at the mark before all that was written: so writing leaves the mark
abbrev pub with_base : Meter → SinkState
with_base m = record m.sink { written = prefixed (m.base ∷ []) m.sink.written }
