-- Frames that are windows on the bytes of a chain.
use Rattle.std.specs.Prelude.{ℕ, ◌+◌, ◌≤◌, List, [], ◌∷◌, Option, Some, None, Result, Ok, Err, length, take, drop, map, max}
use Rattle.std.specs.List.{All}
use Rattle.storage.specs.declared.release.NoOwner.{NoOwner}
use Rattle.buffer_model.specs.Segment.{Segment, bytes_of}
use Rattle.frame_batch.specs.declared.window.Window.{Window}

-- what a batch is seen as: the nodes of its chain, and the bytes of its frames
pub record Batched : Type 0 where
  pub chain : List (Segment NoOwner)
  pub frames : List (List ℕ)

-- the bytes of a window on some bytes
abbrev pub frame_in : List ℕ → Window → List ℕ
frame_in all w = take w.size (drop w.place all)

abbrev pub frames_in : List ℕ → List Window → List (List ℕ)
frames_in all ws = map (λ w. frame_in all w) ws

-- each window lies within the bytes
abbrev pub AreIn : List ℕ → List Window → Type 0
AreIn all ws = All (λ w. w.place + w.size ≤ length all) ws

-- the batch of these windows on a chain
abbrev pub batched : List (Segment NoOwner) → List Window → Batched
batched chain ws = record { chain = chain; frames = frames_in (bytes_of chain) ws }

-- the window on all bytes of a chain
abbrev pub whole_of : List (Segment NoOwner) → Window
whole_of chain = record { place = 0; size = length (bytes_of chain) }

-- the windows of a list, and where there is no list one alone
abbrev pub many_or : Window → Option (List Window) → List Window
many_or one None = one ∷ []
many_or one (Some many) = many

-- a window that may be there
abbrev pub window_in : Option Window → List Window
window_in None = []
window_in (Some w) = w ∷ []

-- the nodes of a batch that a call answers
abbrev pub chain_in : {E : Type 0} → Result Batched E → List (Segment NoOwner)
chain_in (Ok b) = b.chain
chain_in (Err e) = []

-- how much room a batch takes up in a queue
abbrev pub room_of : Batched → ℕ
room_of b = max (length b.frames) 1
