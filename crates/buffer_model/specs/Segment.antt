-- Windows on blocks, and the calls that move them.
use Rattle.std.specs.Prelude.{ℕ, ◌+◌, ◌-◌, List, [], ◌∷◌, ◌++◌, length, take, drop, replicate}
use Rattle.buffer_model.specs.Share.{Share, Held}

-- a window on a block: the bytes before it, in it and after it, and what it has of the storage
pub record Segment (O : Type 0) : Type 0 where
  pub before : List ℕ
  pub window : List ℕ
  pub after : List ℕ
  pub share : Share O

-- a block with other bytes written over those from p on
abbrev pub overwritten : List ℕ → ℕ → List ℕ → List ℕ
overwritten block p bytes = take p block ++ (bytes ++ drop (p + length bytes) block)

module _ {O : Type 0} where
  -- all bytes of the block
  abbrev pub block_of : Segment O → List ℕ
  block_of s = s.before ++ (s.window ++ s.after)

  -- the bytes in the windows, one after another
  abbrev pub bytes_of : List (Segment O) → List ℕ
  bytes_of [] = []
  bytes_of (s ∷ ss) = s.window ++ bytes_of ss

  -- a block cut into the bytes before a place, n bytes from there on, and the rest. What would lie past its end is
  -- left out
  abbrev pub cut : List ℕ → ℕ → ℕ → Share O → Segment O
  cut block start n share = record {
    before = take start block;
    window = take n (drop start block);
    after = drop (start + n) block;
    share = share;
  }

  -- the hold that the window is of
  abbrev pub hold_of : Segment O → Held O
  hold_of s = record { bytes = block_of s; share = s.share }

  -- all bytes are in the window
  abbrev pub whole_window : List ℕ → Share O → Segment O
  whole_window bytes share = record { before = []; window = bytes; after = []; share = share }

  -- bytes between two rooms of zero bytes
  abbrev pub between_rooms : ℕ → ℕ → List ℕ → Share O → Segment O
  between_rooms head tail bytes share = record {
    before = replicate head 0;
    window = bytes;
    after = replicate tail 0;
    share = share;
  }

  -- the window loses its first n bytes to what is before it
  abbrev pub trimmed_start : ℕ → Segment O → Segment O
  trimmed_start n s = record s { before = s.before ++ take n s.window; window = drop n s.window }

  -- the window loses its last n bytes to what is after it
  abbrev pub trimmed_end : ℕ → Segment O → Segment O
  trimmed_end n s =
      let k = length s.window - n in record s { window = take k s.window; after = drop k s.window ++ s.after }

  -- the window gains the next n bytes
  abbrev pub appended : ℕ → Segment O → Segment O
  appended n s = record s { window = s.window ++ take n s.after; after = drop n s.after }

  -- the window gains the n bytes before it
  abbrev pub prepended : ℕ → Segment O → Segment O
  prepended n s =
      let k = length s.before - n in record s { before = take k s.before; window = drop k s.before ++ s.window }

  -- the window's bytes are written over those from p on, and the window lies there
  abbrev pub moved_to : ℕ → Segment O → Segment O
  moved_to p s = cut (overwritten (block_of s) p s.window) p (length s.window) s.share

  -- the window's bytes are copied n places on, and the window follows them
  abbrev pub advanced : ℕ → Segment O → Segment O
  advanced n s = moved_to (length s.before + n) s

  -- the window's bytes are copied n places back, and the window follows them
  abbrev pub retreated : ℕ → Segment O → Segment O
  retreated n s = moved_to (length s.before - n) s

  -- the window has other bytes
  abbrev pub rewritten : List ℕ → Segment O → Segment O
  rewritten bytes s = record s { window = bytes }

  -- the same three lists on another share
  abbrev pub shared_as : Share O → Segment O → Segment O
  shared_as share s = record s { share = share }
