-- Writes into a block.
use Rattle.std.specs.Prelude.{ℕ, List, ◌++◌, length, take, drop}
use Rattle.std.specs.List.{refill}

-- a block whose bytes from p on, as many as are given, are these. Its length stays
abbrev pub with_span : List ℕ → ℕ → List ℕ → List ℕ
with_span block p bytes = refill (length block) block (take p block ++ (bytes ++ drop (length bytes) (drop p block)))
