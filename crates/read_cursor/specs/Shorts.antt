-- What a cursor answers.
use Rattle.std.specs.Prelude.{◌≡◌, ℕ, ◌<◌, ◌≤◌, List, length, take, Result, Ok, Err, IsOk, IfOk, OnOk, OnErr}
use Rattle.read_cursor.specs.declared.cursor.Short.{Short}
use Rattle.read_cursor.specs.Reading.{Reading, rest_of, moved}

-- an answer is `Short` exactly where more is asked for than is had, with both numbers
pub record IsShort {X : Type 0} (asked had : ℕ) (answer : Result X Short) : Type 0 where
  pub beyond : had < asked → answer ≡ Err (record { asked = asked; had = had })
  pub within : asked ≤ had → IsOk answer

-- the value of the next bytes is read, and they are passed; `Short` exactly where fewer are left, and the place stays
pub record Reads {X : Type 0} (size : ℕ) (value : List ℕ → X) (old new : Reading) (answer : Result X Short) : Type 0
  where
    pub short : IsShort size (length (rest_of old)) answer
    pub value_is : IfOk answer (λ x. x ≡ value (take size (rest_of old)))
    pub passed : OnOk answer (new ≡ moved size old)
    pub refused : OnErr answer (new ≡ old)
