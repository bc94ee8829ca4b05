-- Chains of which some bytes are written over.
use Rattle.std.specs.Prelude.{ℕ, ◌-◌, List, [], ◌∷◌, length, take, drop}
use Rattle.buffer_model.specs.Share.{IsWhole, claimed}
use Rattle.buffer_model.specs.Segment.{Segment, overwritten, rewritten, shared_as}
use Rattle.iobuf_chain.specs.Shares.{HasSome}

module _ {O : Type 0} where
  -- a node that was claimed for writing, with these bytes over those from a place on; without bytes it stays
  abbrev pub written_in : ℕ → List ℕ → Segment O → Segment O
  written_in at [] s = s
  written_in at (b ∷ bytes) s =
      rewritten (overwritten s.window at (b ∷ bytes)) (shared_as (claimed s.share) s)

  -- a chain with these bytes over those from a place on: a node passes so many places and takes so many bytes as it
  -- has. What would lie past the end is left out
  abbrev pub written : ℕ → List ℕ → List (Segment O) → List (Segment O)
  written at bytes [] = []
  written at bytes (s ∷ ss) =
      written_in at (take (length s.window - at) bytes) s
      ∷ written (at - length s.window) (drop (length s.window - at) bytes) ss

  -- each node that has one of n bytes from a place on is whole
  abbrev pub MayWrite : ℕ → ℕ → List (Segment O) → Type 0
  MayWrite at n [] = Unit {0}
  MayWrite at n (s ∷ ss) =
      (HasSome at n s → IsWhole s.share) × MayWrite (at - length s.window) (n - (length s.window - at)) ss
