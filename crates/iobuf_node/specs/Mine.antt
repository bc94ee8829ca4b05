-- What a window shows.
use Rattle.std.specs.Prelude.{ℕ, ◌+◌, List, ◌++◌, length, drop, Option, Some, None}
use Rattle.raw_block.specs.Spans.{with_span}
use Rattle.buffer_model.specs.Segment.{Segment, cut}
use Rattle.buffer_model.specs.Share.{Held, wrapped}
use Rattle.storage.specs.Held.{with_bytes}
use Rattle.iobuf_node.specs.declared.mine.Mine.{Mine}

module _ {O : Type 0} where
  abbrev pub seen : Mine O → Segment O
  seen m = cut m.hold.bytes m.start m.len m.hold.share

  -- how many bytes a window's block has
  abbrev pub size : Segment O → ℕ
  size s = length s.before + (length s.window + length s.after)

  -- the window with other bytes
  abbrev pub with_window : Mine O → List ℕ → Mine O
  with_window m w = let start = length (seen m).before in record {
    hold = with_bytes m.hold (with_span m.hold.bytes start w);
    start = start;
    len = length (seen m).window;
  }

  -- the window with other bytes from its end on
  abbrev pub with_tail : Mine O → List ℕ → Mine O
  with_tail m w = let start = length (seen m).before in let len = length (seen m).window in record {
    hold = with_bytes m.hold (with_span m.hold.bytes (start + len) w);
    start = start;
    len = len;
  }

  -- a segment whose first bytes after the window became these
  abbrev pub tail_written : List ℕ → Segment O → Segment O
  tail_written bytes s = record s { after = bytes ++ drop (length bytes) s.after }

  -- what a node's window is on: the bytes that it wraps, where there are some, else the block that is managed
  abbrev pub based_on : {W : Type 0} → (W → List ℕ) → Option W → Held O → Held O
  based_on bytes None managed = managed
  based_on bytes (Some w) managed = record { bytes = bytes w; share = wrapped }

  -- a node's window
  abbrev pub shown : {W : Type 0} → (W → List ℕ) → Option W → Mine O → Segment O
  shown bytes w m = let h = based_on bytes w m.hold in cut h.bytes m.start m.len h.share
