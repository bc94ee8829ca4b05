-- Nodes that got room.
use Rattle.std.specs.Prelude.{◌≡◌, ◌≤◌, ℕ, length}
use Rattle.buffer_model.specs.Share.{own}
use Rattle.buffer_model.specs.Segment.{Segment, between_rooms}
use Rattle.buffer_model.specs.Minted.{Numbers, Adds, IsNew}

-- both rooms of a node are at least this large
abbrev pub HasRoom : {O : Type 0} → ℕ → ℕ → Segment O → Type 0
HasRoom head tail s = (head ≤ length s.before) × (tail ≤ length s.after)

-- a node before and after its data moved to a new storage, between rooms of so many zero bytes
pub record MakesRoom {O : Type 0} (old new : Numbers) (head tail : ℕ) (before after : Segment O) : Type 0 where
  pub lists : after ≡ between_rooms head tail before.window after.share
  pub storage : IsNew old new own after.share
  pub mint : Adds 1 old new
