-- Chains whose nodes leave the storages that others may hold.
use Rattle.std.specs.Prelude.{◌≡◌, ◌+◌, ◌==◌, Bool, if◌then◌else◌, List, [], ◌∷◌, drop, slice_get, unwrap_or, ◌⊎◌}
use Rattle.share_count.specs.Weights.{full}
use Rattle.buffer_model.specs.Share.{Share, IsWhole}
use Rattle.buffer_model.specs.Segment.{Segment}
use Rattle.buffer_model.specs.Minted.{Numbers}
use Rattle.buffer_model.specs.Clones.{MovesOut}

module _ {O : Type 0} where
  -- whether a hold has all of its storage's weight
  abbrev pub is_whole : Share O → Bool
  is_whole s = s.weight + s.absorbed == full

  -- the nodes that aren't whole, in order
  abbrev pub shared_in : List (Segment O) → List (Segment O)
  shared_in [] = []
  shared_in (s ∷ ss) = if is_whole s.share then shared_in ss else s ∷ shared_in ss

  -- a node before and after: where it is whole it stays, else it moved to a copy of its block
  abbrev pub UnsharesOne : Numbers → Numbers → Segment O → Segment O → Type 0
  UnsharesOne old new before after =
      (IsWhole before.share × (after ≡ before) × (new ≡ old))
      ⊎ ((¬ IsWhole before.share) × MovesOut old new before after)

  -- the same of each node, in order: the mint, and the nodes before and after
  abbrev pub UnsharesEach : Numbers → Numbers → List (Segment O) → List (Segment O) → Type 0
  UnsharesEach old new [] [] = new ≡ old
  UnsharesEach old new (b ∷ bs) (n ∷ ns) = (mid : Numbers) × UnsharesOne old mid b n × UnsharesEach mid new bs ns
  UnsharesEach old new _ _ = ⊥

  -- each node has a copy of its block on a new storage, in order
  abbrev pub CopiesEach : Numbers → Numbers → List (Segment O) → List (Segment O) → Type 0
  CopiesEach old new [] [] = new ≡ old
  CopiesEach old new (b ∷ bs) (c ∷ cs) = (mid : Numbers) × MovesOut old mid b c × CopiesEach mid new bs cs
  CopiesEach old new _ _ = ⊥

  -- other nodes stand in the places of those that aren't whole, in order
  abbrev pub replaced : List (Segment O) → List (Segment O) → List (Segment O)
  replaced others [] = []
  replaced others (s ∷ ss) =
      if is_whole s.share
      then s ∷ replaced others ss
      else unwrap_or (slice_get others 0) s ∷ replaced (drop 1 others) ss
