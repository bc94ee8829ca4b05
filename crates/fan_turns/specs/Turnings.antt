-- Turns that are given out.
use Rattle.std.specs.Prelude.{◌≡◌, ℕ, ◌+◌, ◌≤◌, [], Option, Some, None}
use Rattle.observer.specs.declared.turn.Turn.{Turn}
use Rattle.observer.specs.Drains.{Drain}
use Rattle.observer.specs.Turns.{Turned}

-- a drainer may take so many items: they are no more than its queue holds with an end, and nothing is to be collected
abbrev pub IsReady : ℕ → Drain → Type 0
IsReady upto d = (upto ≤ d.cap + 1) × (d.returns ≡ [])

-- it took its turn, which answered this, and is to take as many next, if nobody says otherwise
abbrev pub HasTurned : ℕ → Drain → ℕ → Drain → Option Turn → Type 0
HasTurned upto old next new None = ⊥
HasTurned upto old next new (Some turn) = Turned upto old new turn × (next ≡ upto)
