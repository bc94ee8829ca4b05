-- Bytes that are looked for.
use Rattle.std.specs.Prelude.{◌≡◌, ℕ, ◌<◌, ◌==◌, Bool, List, length, Result, Err}
use Rattle.std.specs.List.{prefix_len, position_or_len, list_any}
use Rattle.read_cursor.specs.declared.until.FindFault.{FindFault}
use Rattle.read_cursor.specs.declared.until.FindFault.TheVariants.{NoByte}

-- whether a byte is one of these
abbrev pub among : List ℕ → ℕ → Bool
among set b = list_any (λ x. x == b) set

-- how many first bytes are all of a set
abbrev pub run_among : List ℕ → List ℕ → ℕ
run_among set bytes = prefix_len (λ b. among set b) bytes

-- how many bytes stand before the first such one: all where there is none
abbrev pub before_byte : ℕ → List ℕ → ℕ
before_byte byte bytes = position_or_len (λ b. b == byte) bytes

-- an answer is `NoByte` exactly where none of these bytes is that one, with their number
pub record IsMissing {X : Type 0} (byte : ℕ) (bytes : List ℕ) (answer : Result X FindFault) : Type 0 where
  pub missing : before_byte byte bytes ≡ length bytes → answer ≡ Err (NoByte (length bytes))
  pub there : before_byte byte bytes < length bytes → (n : ℕ) → answer ≡ Err (NoByte n) → ⊥
