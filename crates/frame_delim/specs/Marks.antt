-- Delimiters.
use Rattle.std.specs.Prelude.{ℕ, ◌-◌, ◌<◌, ◌≤◌, Bool, true, ◌||◌, ◌==◌, List, [], ◌∷◌, Option, Some, None, length, slice_index, nat_lt, if◌then◌else◌}
use Rattle.std.specs.List.{Contains}

-- no delimiter is empty
abbrev pub NoneEmpty : List (List ℕ) → Type 0
NoneEmpty list = (m : List ℕ) → Contains list m → 0 < length m

-- no delimiter has more than `n` bytes
abbrev pub NoneOver : ℕ → List (List ℕ) → Type 0
NoneOver n list = (m : List ℕ) → Contains list m → length m ≤ n

abbrev pub last_byte : List ℕ → ℕ
last_byte m = slice_index m (length m - 1)

-- whether a delimiter may end with a byte: for up to three delimiters, whether it is the last byte of one
abbrev pub may_end : List (List ℕ) → ℕ → Bool
may_end (a ∷ []) x = x == last_byte a
may_end (a ∷ b ∷ []) x = x == last_byte a || x == last_byte b
may_end (a ∷ b ∷ c ∷ []) x = x == last_byte a || x == last_byte b || x == last_byte c
may_end _ x = true

-- the greater of a size and another that may be there
abbrev pub longer_size : ℕ → Option ℕ → ℕ
longer_size n None = n
longer_size n (Some k) = if nat_lt n k then k else n
