-- Counts that stand still at their type's end.
use Rattle.std.proofs.Common.{ℕ, ◌+◌, ◌-◌, ◌^◌, ◌≤◌, Bool, true, false, nat_lt, nat_eq, if◌then◌else◌, arith}
use Rattle.relay_ports.specs.Told.{counted, calls_after}

rises_by : (n : ℕ) (b : Bool) → n ≤ (if b then n + 1 else n)
rises_by n true = omega arith
rises_by n false = omega arith

-- a count never falls
pub counted_rises : (n : ℕ) → n ≤ counted n
counted_rises n = rises_by n (nat_lt n (2 ^ 64 - 1))

-- the number of calls after the first that failed never falls
pub calls_after_rises : (faults after : ℕ) → after ≤ calls_after faults after
calls_after_rises faults after = from_zero (nat_eq faults 0)
  where
    from_zero : (b : Bool) → after ≤ (if b then after else counted after)
    from_zero true = omega arith
    from_zero false = counted_rises after
