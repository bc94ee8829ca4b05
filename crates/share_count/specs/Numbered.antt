-- Which storage has a number of a mint.
use Rattle.std.specs.Prelude.{◌≡◌, ℕ, List, [], ◌∷◌, ◌++◌, length, Option, Some}
use Rattle.atomic_table.specs.Seated.{TableId}
use Rattle.share_count.specs.Histories.{find}

-- the mint gave the number n to the storage t
abbrev pub IsNumbered : List (Option TableId) → ℕ → TableId → Type 0
IsNumbered mint n t = find mint n ≡ Some t

-- equal numbers of one mint are one storage
abbrev pub NumbersOneStorage : Type 0
NumbersOneStorage = (mint : List (Option TableId)) (n : ℕ) (t u : TableId) → IsNumbered mint n t → IsNumbered mint n u
    → t ≡ u

-- a mint that goes on keeps the numbers that it gave
abbrev pub KeepsNumbers : Type 0
KeepsNumbers = (mint : List (Option TableId)) (more : Option TableId) (n : ℕ) (t : TableId) → IsNumbered mint n t
    → IsNumbered (mint ++ more ∷ []) n t

-- a new storage has the next number
abbrev pub NumbersNew : Type 0
NumbersNew = (mint : List (Option TableId)) (t : TableId) → IsNumbered (mint ++ Some t ∷ []) (length mint) t
