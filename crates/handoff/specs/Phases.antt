-- The rule of a handoff: one word, one slot, and what each of the two ends knows.
use Rattle.std.specs.Prelude.{◌≡◌, ◌≢◌, ℕ, List, [], ◌∷◌, Option, Some, None, IfSome}
use mathlib.Core.Option.{some, none}
use mathlib.Core.Option as home
use Rattle.atomic_table.specs.Table.{State, Me}
use Rattle.handoff.specs.declared.rule.View.{View}
use Rattle.handoff.specs.declared.rule.View.TheVariants.{Whole, Holding, Waiting, Resting, Working}

module _ {J : Type 0} where
  -- the item to which an end waits for an answer
  abbrev pub asked_of : View J → Option J
  asked_of Whole = None
  asked_of Holding = None
  asked_of (Waiting asked) = asked
  asked_of Resting = None
  asked_of (Working item) = None

  -- what lies in the slot that an end has
  abbrev pub in_hand : List (ℕ × Option J) → Option J
  in_hand [] = None
  in_hand (taken ∷ others) = taken.1

  -- what was found answers the item that was asked
  abbrev pub Answers : (J → J → Type 0) → Option J → Option J → Type 0
  Answers does asked found = IfSome asked (λ x. (y : J) × (found ≡ Some y) × does x y)

  -- the word is 1 as long as an item is out, 2 where none is or its answer lies there, and 3 at the end
  module _ (takes : J → Type 0) (does : J → J → Type 0) where
    -- no end is cut off yet
    abbrev pub Fresh : ℕ → List (home.Option (Option J)) → List (View J) → Type 0
    Fresh word homes views = (word ≡ 2) × (homes ≡ some None ∷ []) × (views ≡ Whole ∷ [])

    -- the giving end has the slot
    abbrev pub Free : ℕ → List (home.Option (Option J)) → List (View J) → Type 0
    Free word homes views = (word ≢ 1) × (homes ≡ none ∷ []) × (views ≡ Holding ∷ Resting ∷ [])

    -- an item lies in the slot
    abbrev pub Asked : ℕ → List (home.Option (Option J)) → List (View J) → Type 0
    Asked word homes views =
        (x : J) × (word ≡ 1) × takes x × (homes ≡ some (Some x) ∷ []) × (views ≡ Waiting (Some x) ∷ Resting ∷ [])

    -- the worker has the slot
    abbrev pub Worked : ℕ → List (home.Option (Option J)) → List (View J) → Type 0
    Worked word homes views = (x : J) × (word ≡ 1) × (homes ≡ none ∷ []) × (views ≡ Waiting (Some x) ∷ Working x ∷ [])

    -- the answer lies in the slot
    abbrev pub Done : Option J → ℕ → List (home.Option (Option J)) → List (View J) → Type 0
    Done asked word homes views =
        (found : Option J) × (word ≡ 2) × Answers does asked found
        × (homes ≡ some found ∷ []) × (views ≡ Waiting asked ∷ Resting ∷ [])

    pub data Phase (word : ℕ) (homes : List (home.Option (Option J))) (views : List (View J)) : Type 0 where
      fresh : Fresh word homes views → Phase word homes views
      free : Free word homes views → Phase word homes views
      asked : Asked word homes views → Phase word homes views
      worked : Worked word homes views → Phase word homes views
      done : (item : Option J) → Done item word homes views → Phase word homes views

    abbrev pub Kept : State (Option J) (View J) → Type 0
    Kept s = (word : ℕ) × (s.words ≡ word ∷ []) × Phase word s.homes s.views

  -- the answer is taken, with the slot
  abbrev pub TakesAnswer : (J → J → Type 0) → Me (Option J) (View J) → Me (Option J) (View J) → Type 0
  TakesAnswer does before after =
      (z : Option J) × (after ≡ (Holding, (0, z) ∷ [])) × Answers does (asked_of before.0) z

  -- an answer that lies there is taken; there is one where nothing was asked
  abbrev pub Collects : (J → J → Type 0) → Me (Option J) (View J) → ℕ → Me (Option J) (View J) → Type 0
  Collects does before found after =
      (found ≡ 2 → TakesAnswer does before after)
      × (found ≢ 2 → (after ≡ before) × (asked_of before.0 ≢ None))

  -- an item that lies there is taken
  abbrev pub Looks : (J → Type 0) → Me (Option J) (View J) → ℕ → Me (Option J) (View J) → Type 0
  Looks takes before found after =
      (found ≡ 1 → (x : J) × (after ≡ (Working x, (0, Some x) ∷ [])) × takes x)
      × (found ≢ 1 → after ≡ before)

  -- the item in hand is laid into the slot
  abbrev pub Hands : Me (Option J) (View J) → Me (Option J) (View J) → Type 0
  Hands before after = after ≡ (Waiting (in_hand before.1), [])

  -- the answer is laid into the slot
  abbrev pub Rests : Me (Option J) (View J) → Type 0
  Rests after = after ≡ (Resting, [])
