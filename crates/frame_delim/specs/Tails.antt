-- What is kept of the open bytes.
use Rattle.std.specs.Prelude.{◌≡◌, ℕ, ◌-◌, ◌<◌, ◌≤◌, List, ◌++◌, length, drop}
use Rattle.frame_head.specs.Endings.{longest_ending}
use Rattle.frame_rule.specs.Endings.{Unended}
use Rattle.frame_delim.specs.Marks.{NoneOver}

-- the last `n` bytes of a list, or all where there are fewer
abbrev pub last_bytes : ℕ → List ℕ → List ℕ
last_bytes n s = drop (length s - n) s

-- with more bytes behind them, the last bytes of `r` have the same ending as the whole
abbrev pub Tells : List (List ℕ) → List ℕ → List ℕ → Type 0
Tells endings tail r = (f : List ℕ) → 0 < length f
    → longest_ending endings (r ++ f) ≡ longest_ending endings (tail ++ f)

-- no delimiter has more than `longest` bytes, none ends in the open bytes `r`, and `tail` is what of them may begin one
abbrev pub Saw : List (List ℕ) → ℕ → List ℕ → List ℕ → Type 0
Saw list longest tail r = NoneOver longest list × (0 < longest) × (longest ≤ 64) × Unended list r
    × (tail ≡ last_bytes (longest - 1) r)
