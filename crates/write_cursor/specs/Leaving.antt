-- Nodes that leave their storages before some of their bytes are written.
use Rattle.std.specs.Prelude.{ℕ, ◌-◌, Bool, ◌&&◌, not, if◌then◌else◌, List, [], ◌∷◌, length, drop, nat_lt, slice_get, unwrap_or}
use Rattle.buffer_model.specs.Segment.{Segment}
use Rattle.chain_unshare.specs.Unshares.{is_whole}

module _ {O : Type 0} where
  -- whether a node leaves its storage before n bytes from a place on are written: it has some of them, and others may
  -- hold the storage
  abbrev pub leaves : ℕ → ℕ → Segment O → Bool
  leaves at n s = (nat_lt at (length s.window) && nat_lt 0 n) && not (is_whole s.share)

  -- the nodes that do, in order
  abbrev pub leaving : ℕ → ℕ → List (Segment O) → List (Segment O)
  leaving at n [] = []
  leaving at n (s ∷ ss) =
      if leaves at n s
      then s ∷ leaving (at - length s.window) (n - (length s.window - at)) ss
      else leaving (at - length s.window) (n - (length s.window - at)) ss

  -- other nodes stand in their places, in order
  abbrev pub moved_out : List (Segment O) → ℕ → ℕ → List (Segment O) → List (Segment O)
  moved_out others at n [] = []
  moved_out others at n (s ∷ ss) =
      if leaves at n s
      then unwrap_or (slice_get others 0) s
      ∷ moved_out (drop 1 others) (at - length s.window) (n - (length s.window - at)) ss
      else s ∷ moved_out others (at - length s.window) (n - (length s.window - at)) ss
