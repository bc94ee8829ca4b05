-- Queues: their nodes, and what of the last one's room is offered for writing.
use Rattle.std.specs.Prelude.{◌≡◌, ℕ, zero, suc, ◌<◌, ◌≤◌, Bool, true, List, [], ◌∷◌, length}
use Rattle.std.specs.Prelude.{Option, Some, None, IfSome, if◌then◌else◌}
use Rattle.buffer_model.specs.Share.{IsAlone, wrapped}
use Rattle.buffer_model.specs.Segment.{Segment, whole_window}
use Rattle.iobuf_chain.specs.Tails.{last_of, filled_behind}

-- the nodes, and how many bytes of the room behind the last one's data are offered: they may be written and taken in
pub record Queued (O : Type 0) : Type 0 where
  pub nodes : List (Segment O)
  pub lent : ℕ

module _ {O : Type 0} where
  -- a queue of these nodes that offers nothing
  abbrev pub queue_of : List (Segment O) → Queued O
  queue_of nodes = record { nodes = nodes; lent = 0 }

  -- what a chain shows: no node where it is marked as empty
  abbrev pub shown : Bool → List (Segment O) → ℕ → Queued O
  shown empty chain lent = record { nodes = if empty then [] else chain; lent = lent }

  -- a chain that is marked as empty holds no storage, and nothing of it is offered
  abbrev pub IsBlank : Bool → List (Segment O) → ℕ → Type 0
  IsBlank empty chain lent = empty ≡ true → (chain ≡ whole_window [] wrapped ∷ []) × (lent ≡ 0)

  -- what is offered is there, and may be written
  abbrev pub IsOffered : List (Segment O) → ℕ → Type 0
  IsOffered nodes lent = 0 < lent → IfSome (last_of nodes) (λ s. IsAlone s.share × (lent ≤ length s.after))

  -- the room behind the last node's data
  abbrev pub room_of : Option (Segment O) → List ℕ
  room_of None = []
  room_of (Some s) = s.after

  abbrev pub written_at : List (Segment O) → ℕ → List ℕ → List (Segment O)
  written_at nodes zero bytes = nodes
  written_at nodes (suc n) bytes = filled_behind nodes bytes

  -- a queue once these bytes were written where it offers some
  abbrev pub written : Queued O → List ℕ → Queued O
  written q bytes = record q { nodes = written_at q.nodes q.lent bytes }
