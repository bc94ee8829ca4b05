-- What watchers hear.
use Rattle.std.specs.Prelude.{◌≡◌, ℕ, ◌<◌, List, [], ◌∷◌, ◌++◌, map, take, drop, length}
use Rattle.buffer_model.specs.Segment.{bytes_of}
use Rattle.sub_queue.specs.declared.items.End.{End}
use Rattle.observer.specs.declared.telling.Word.{Word}
use Rattle.observer.specs.declared.telling.Word.TheVariants as word

-- a frame of an upstream, by its bytes; that all of it was published; or that it ended otherwise
pub data Note : Type 0 where
  Next : ℕ → List ℕ → Note
  Completed : ℕ → Note
  Failed : ℕ → End → Note

abbrev pub next_note : ℕ → List ℕ → Note
next_note up bytes = Next up bytes

abbrev pub completed_note : ℕ → Note
completed_note up = Completed up

abbrev pub failed_note : ℕ → End → Note
failed_note up end = Failed up end

abbrev pub note_of : Word → Note
note_of (word.Next up frame) = Next up (bytes_of frame.now)
note_of (word.Completed up) = Completed up
note_of (word.Failed up end) = Failed up end

-- each heard one note more
abbrev pub each_heard : Note → List (List Note) → List (List Note)
each_heard n old = map (λ notes. notes ++ n ∷ []) old

-- those before one of them heard one note more, and it and the others nothing
abbrev pub SomeHeard : Note → List (List Note) → List (List Note) → Type 0
SomeHeard n old new = (k : ℕ) × (k < length old) × (new ≡ each_heard n (take k old) ++ drop k old)
