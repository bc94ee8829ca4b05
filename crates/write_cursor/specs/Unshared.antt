-- Chains into which bytes are written, once the nodes that hold them left the storages that others may hold.
use Rattle.std.specs.Prelude.{◌≡◌, ℕ, ◌-◌, true, false, List, [], ◌∷◌, length, ◌⊎◌}
use Rattle.buffer_model.specs.Segment.{Segment}
use Rattle.buffer_model.specs.Minted.{Numbers}
use Rattle.buffer_model.specs.Clones.{MovesOut}
use Rattle.write_cursor.specs.Leaving.{leaves}
use Rattle.write_cursor.specs.Written.{written}

module _ {O : Type 0} where
  -- a node before n bytes from a place on are written, and as it is then written: where it has some of them and isn't
  -- whole it moved to a copy of its block, else it stays
  abbrev pub UnsharesIf : ℕ → ℕ → Numbers → Numbers → Segment O → Segment O → Type 0
  UnsharesIf at n old new before after =
      ((leaves at n before ≡ false) × (after ≡ before) × (new ≡ old))
      ⊎ ((leaves at n before ≡ true) × MovesOut old new before after)

  -- the same of each node, in order
  abbrev pub UnsharesOver : ℕ → ℕ → Numbers → Numbers → List (Segment O) → List (Segment O) → Type 0
  UnsharesOver at n old new [] [] = new ≡ old
  UnsharesOver at n old new (b ∷ bs) (m ∷ ms) =
      (mid : Numbers) × UnsharesIf at n old mid b m
      × UnsharesOver (at - length b.window) (n - (length b.window - at)) mid new bs ms
  UnsharesOver at n old new _ _ = ⊥

  -- a chain before and after these bytes were written over those from a place on: first each node that has one of them
  -- leaves the storage that others may hold, then they are written
  pub record WritesAlone (place : ℕ) (bytes : List ℕ) (old new : Numbers) (before after : List (Segment O))
      : Type 0 where
    pub ready : List (Segment O)
    pub unshared : UnsharesOver place (length bytes) old new before ready
    pub after_is : after ≡ written place bytes ready
