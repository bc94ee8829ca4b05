-- What a drainer does in a turn.
use Rattle.std.specs.Prelude.{◌≡◌, false, List, [], ℕ}
use Rattle.buffered_io.specs.Writing.{Outlet, PrintsTo}

-- a text was printed, and none of it is left to print; nothing waits: the sink took all of it, or failed before its end
abbrev pub Drains : List ℕ → Outlet → List ℕ → Outlet → Type 0
Drains text d left e = (left ≡ []) × PrintsTo text d e × (e.failed ≡ false → e.text ≡ [])
