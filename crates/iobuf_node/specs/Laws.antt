-- What is true of windows.
use Rattle.std.specs.Prelude.{◌≡◌, ◌≤◌, ℕ, List, length}
use Rattle.buffer_model.specs.Segment.{rewritten}
use Rattle.iobuf_node.specs.declared.mine.Mine.{Mine}
use Rattle.iobuf_node.specs.Mine.{seen, with_window, with_tail, tail_written}

-- what a loan of the data leaves is the window with the bytes that were written
abbrev pub WritesWindow : Type 0 → Type 0
WritesWindow O =
    (m : Mine O) (bytes : List ℕ) → length bytes ≡ length (seen m).window
    → seen (with_window m bytes) ≡ rewritten bytes (seen m)

-- what a loan of the room after the data leaves is the window with the bytes that were written there
abbrev pub WritesTail : Type 0 → Type 0
WritesTail O =
    (m : Mine O) (bytes : List ℕ) → length bytes ≤ length (seen m).after
    → seen (with_tail m bytes) ≡ tail_written bytes (seen m)
