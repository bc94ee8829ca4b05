-- Why a call that asks for bytes is refused.
use Rattle.std.specs.Prelude.{◌≡◌, ℕ, ◌-◌, ◌<◌, ◌≤◌, Result, Ok, Err}
use Rattle.iobuf_chain.specs.declared.fault.CutFault.{CutFault}
use Rattle.iobuf_chain.specs.declared.fault.CutFault.TheVariants.{Short, NoMemory}

-- an answer is `Short` exactly where more is asked for than is had, with both numbers
pub record IsShortBeyond {X : Type 0} (asked had : ℕ) (answer : Result X CutFault) : Type 0 where
  pub beyond : had < asked → answer ≡ Err (Short asked had)
  pub within : asked ≤ had → (a h : ℕ) → answer ≡ Err (Short a h) → ⊥

-- of a range of n bytes from a place: first its place, then what is left behind it
pub record IsShortRange {X : Type 0} (at n had : ℕ) (answer : Result X CutFault) : Type 0 where
  pub place : had < at → answer ≡ Err (Short at had)
  pub bytes : at ≤ had → had - at < n → answer ≡ Err (Short n (had - at))
  pub within : at ≤ had → n ≤ had - at → (a h : ℕ) → answer ≡ Err (Short a h) → ⊥
