-- The last node of a chain, and the room after its data.
use Rattle.std.specs.Prelude.{ℕ, ◌+◌, List, [], ◌∷◌, length, Option, Some, None}
use Rattle.raw_block.specs.Spans.{with_span}
use Rattle.buffer_model.specs.Segment.{Segment, block_of, cut}

-- the last item of a list
abbrev pub last_of : {X : Type 0} → List X → Option X
last_of [] = None
last_of (x ∷ []) = Some x
last_of (x ∷ y ∷ ys) = last_of (y ∷ ys)

-- a list whose last item became another
abbrev pub turned_last : {X : Type 0} → (X → X) → List X → List X
turned_last f [] = []
turned_last f (x ∷ []) = f x ∷ []
turned_last f (x ∷ y ∷ ys) = x ∷ turned_last f (y ∷ ys)

module _ {O : Type 0} where
  -- a segment with these bytes from its window's end on: what would lie past its block is left out
  abbrev pub filled_tail : Segment O → List ℕ → Segment O
  filled_tail s bytes =
      let start = length s.before in
      let len = length s.window in cut (with_span (block_of s) (start + len) bytes) start len s.share

  -- a chain with these bytes right behind its data
  abbrev pub filled_behind : List (Segment O) → List ℕ → List (Segment O)
  filled_behind ss bytes = turned_last (λ s. filled_tail s bytes) ss
