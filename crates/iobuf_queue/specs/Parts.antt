-- Queues that gain nodes and bytes.
use Rattle.std.specs.Prelude.{◌≡◌, ℕ, ◌≤◌, List, [], ◌∷◌, ◌++◌, length, Option, Some, None, min}
use Rattle.buffer_model.specs.Share.{Share, own, IsWhole, claimed}
use Rattle.buffer_model.specs.Segment.{Segment, between_rooms, shared_as}
use Rattle.buffer_model.specs.Minted.{Numbers, Adds, IsNew}
use Rattle.iobuf_chain.specs.Tails.{last_of, turned_last}
use Rattle.iobuf_queue.specs.Queued.{Queued, room_of}

module _ {O : Type 0} where
  -- a node that was found to be its storage's only holder
  abbrev pub claims : Segment O → Segment O
  claims s = shared_as (claimed s.share) s

  -- there is a last node, it is whole, and the room behind its data has so many bytes
  abbrev pub HasTailAt : ℕ → Option (Segment O) → Type 0
  HasTailAt n None = ⊥
  HasTailAt n (Some s) = IsWhole s.share × (n ≤ length s.after)

  abbrev pub HasTail : ℕ → List (Segment O) → Type 0
  HasTail n nodes = HasTailAt n (last_of nodes)

  -- a node without data and with so much room, on a new storage, comes last
  pub record AddsRoom (size : ℕ) (old new : Numbers) (before after : List (Segment O)) : Type 0 where
    pub share : Share O
    pub nodes_are : after ≡ before ++ between_rooms 0 size [] share ∷ []
    pub storage : IsNew old new own share
    pub mint : Adds 1 old new

  -- a queue before and after it offers what of the room behind its last node's data is at most `most`
  abbrev pub OffersTail : ℕ → Queued O → Queued O → Type 0
  OffersTail most old new = new ≡ record {
    nodes = turned_last claims old.nodes;
    lent = min (length (room_of (last_of old.nodes))) most;
  }
