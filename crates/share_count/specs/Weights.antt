-- Weights of a storage.
use Rattle.std.specs.Prelude.{ℕ, ◌/◌, ◌^◌, max, min}

-- the weight that all units and receipts of a storage add up to
abbrev pub full : ℕ
full = 2 ^ 62

-- the weight that a share of the weight w has
abbrev pub part : ℕ → ℕ
part w = max 1 (min (w / 1024) (2 ^ 40))
