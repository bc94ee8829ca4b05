-- Chains that lose bytes at an end. Their nodes stay.
use Rattle.std.specs.Prelude.{ℕ, ◌-◌, List, [], ◌∷◌, length}
use Rattle.buffer_model.specs.Segment.{Segment, bytes_of, trimmed_start, trimmed_end}

module _ {O : Type 0} where
  -- the first n bytes leave the windows that have them
  abbrev pub trimmed_front : ℕ → List (Segment O) → List (Segment O)
  trimmed_front n [] = []
  trimmed_front n (s ∷ ss) = trimmed_start n s ∷ trimmed_front (n - length s.window) ss

  -- the last n bytes leave the windows that have them
  abbrev pub trimmed_back : ℕ → List (Segment O) → List (Segment O)
  trimmed_back n [] = []
  trimmed_back n (s ∷ ss) = trimmed_end (n - length (bytes_of ss)) s ∷ trimmed_back n ss
