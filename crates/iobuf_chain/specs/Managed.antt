-- Chains that borrow nothing.
use Rattle.std.specs.Prelude.{◌≡◌, List, [], ◌∷◌, None, ◌⊎◌, Result, Ok, Err}
use Rattle.buffer_model.specs.Share.{IsManaged}
use Rattle.buffer_model.specs.Segment.{Segment}
use Rattle.buffer_model.specs.Minted.{Numbers}
use Rattle.buffer_model.specs.Clones.{MovesOut}

module _ {O : Type 0} where
  -- a node before and after it was managed: a managed one stays, and a wrapped one moves to a copy of its block
  abbrev pub Manages : Numbers → Numbers → Segment O → Segment O → Type 0
  Manages old new before after =
      (IsManaged before.share × (after ≡ before) × (new ≡ old))
      ⊎ ((before.share.number ≡ None) × MovesOut old new before after)

  -- each node, in order: the mint, the nodes before and after
  abbrev pub ManagesEach : Numbers → Numbers → List (Segment O) → List (Segment O) → Type 0
  ManagesEach old new [] [] = new ≡ old
  ManagesEach old new (b ∷ bs) (m ∷ ms) = (mid : Numbers) × Manages old mid b m × ManagesEach mid new bs ms
  ManagesEach old new _ _ = ⊥

  -- what is made for a node before it is managed: a copy of a wrapped one, and for a managed one anything
  abbrev pub Copies : Numbers → Numbers → Segment O → Segment O → Type 0
  Copies old new node copy =
      (IsManaged node.share × (new ≡ old)) ⊎ ((node.share.number ≡ None) × MovesOut old new node copy)

  abbrev pub CopiesEach : Numbers → Numbers → List (Segment O) → List (Segment O) → Type 0
  CopiesEach old new [] [] = new ≡ old
  CopiesEach old new (b ∷ bs) (c ∷ cs) = (mid : Numbers) × Copies old mid b c × CopiesEach mid new bs cs
  CopiesEach old new _ _ = ⊥

  -- of each node and its copy, the node where it is managed
  abbrev pub PicksEach : List (Segment O) → List (Segment O) → List (Segment O) → Type 0
  PicksEach [] [] [] = Unit {0}
  PicksEach (b ∷ bs) (c ∷ cs) (p ∷ ps) =
      (IsManaged b.share → p ≡ b) × (b.share.number ≡ None → p ≡ c) × PicksEach bs cs ps
  PicksEach _ _ _ = ⊥

  -- the nodes that come back in either case
  abbrev pub either_way : Result (List (Segment O)) (List (Segment O)) → List (Segment O)
  either_way (Ok nodes) = nodes
  either_way (Err nodes) = nodes
