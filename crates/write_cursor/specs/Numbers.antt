-- Numbers as bytes.
use Rattle.std.specs.Prelude.{◌≡◌, ℕ, ◌⊎◌}

-- so many bytes are the size of a number type
abbrev pub IsSize : ℕ → Type 0
IsSize n = (n ≡ 1) ⊎ ((n ≡ 2) ⊎ ((n ≡ 4) ⊎ ((n ≡ 8) ⊎ (n ≡ 16))))
