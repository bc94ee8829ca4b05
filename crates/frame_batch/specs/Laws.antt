-- What is true of windows and of parts.
use Rattle.std.specs.Prelude.{◌≡◌, ℕ, ◌+◌, ◌≤◌, ◌<◌, List, length, take, drop}
use Rattle.std.specs.List.{All, concat}
use Rattle.storage.specs.declared.release.NoOwner.{NoOwner}
use Rattle.buffer_model.specs.Segment.{Segment, bytes_of}
use Rattle.frame_batch.specs.declared.window.Window.{Window}
use Rattle.frame_batch.specs.Batches.{frame_in}
use Rattle.frame_batch.specs.Parts.{parts_in}

-- a window within the bytes has as many as it says
abbrev pub WindowHasItsSize : Type 0
WindowHasItsSize = (all : List ℕ) (w : Window) → w.place + w.size ≤ length all → length (frame_in all w) ≡ w.size

-- a window that begins `skip` bytes later, and ends no later, has its bytes of the wider one's
abbrev pub NarrowerWindow : Type 0
NarrowerWindow =
    (all : List ℕ) (w : Window) (skip size : ℕ) → skip + size ≤ w.size
    → frame_in all (record { place = w.place + skip; size = size }) ≡ take size (drop skip (frame_in all w))

-- parts that are joined are the bytes, and each has one at least
pub record PartsAreTheFrame : Type 0 where
  pub bytes :
      (place size : ℕ) (nodes : List (Segment NoOwner))
      → concat (parts_in place size nodes) ≡ take size (drop place (bytes_of nodes))
  pub some :
      (place size : ℕ) (nodes : List (Segment NoOwner)) → All (λ part. 0 < length part) (parts_in place size nodes)
