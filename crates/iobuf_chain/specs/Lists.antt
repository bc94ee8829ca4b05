-- Lists that are joined, taken apart and turned.
use Rattle.std.specs.Prelude.{◌≡◌, ℕ, ◌+◌, ◌-◌, List, [], ◌∷◌, ◌++◌, take, drop, Some, slice_get, slice_set}

module _ {X : Type 0} where
  -- the items from place i up to and without place j
  abbrev pub between : ℕ → ℕ → List X → List X
  between i j xs = take (j - i) (drop i xs)

  -- the others
  abbrev pub without : ℕ → ℕ → List X → List X
  without i j xs = take i xs ++ drop j xs

  -- item i is the first, and those that stood before it are the last
  abbrev pub rotated : ℕ → List X → List X
  rotated i xs = drop i xs ++ take i xs

  -- other items stand behind item i
  abbrev pub inserted_after : ℕ → List X → List X → List X
  inserted_after i ys xs = take (i + 1) xs ++ (ys ++ drop (i + 1) xs)

  -- a list before and after its item at place i became another by f
  pub record TurnsAt (f : X → X) (i : ℕ) (old new : List X) : Type 0 where
    pub item : X
    pub there : slice_get old i ≡ Some item
    pub turned : new ≡ slice_set old i (f item)

  -- it holds of each item
  abbrev pub Each : (X → Type 0) → List X → Type 0
  Each P [] = Unit {0}
  Each P (x ∷ xs) = P x × Each P xs
