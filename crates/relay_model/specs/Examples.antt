-- Turns that were worked out by hand.
use Rattle.std.specs.Prelude.{◌≡◌, ℕ, List, [], ◌∷◌, map, Option, Some, None}
use Rattle.sub_queue.specs.declared.items.End.TheVariants.{Completed, Left, Lagged}
use Rattle.sub_queue.specs.declared.items.Item.{Item}
use Rattle.sub_queue.specs.declared.items.Item.TheVariants.{One, Ended}
use Rattle.hub_model.specs.Hub.{Subscription}
use Rattle.relay_model.specs.Relay.{Setting, Relay, keep_frame, leave_behind, member, begun, turn}

-- the relay after turns in which these frames were read, and at last the end
abbrev pub after : Setting → List (List ℕ) → Relay ℕ → Relay ℕ
after set [] r = turn set [] (Some Completed) r
after set (g ∷ gs) r = after set gs (turn set g None r)

-- so many turns more in which nothing is read
abbrev pub twice_more : Setting → Relay ℕ → Relay ℕ
twice_more set r = turn set [] None (turn set [] None r)

abbrev pub taken_of : Option (Subscription ℕ) → List (Item ℕ)
taken_of None = []
taken_of (Some s) = s.taken

-- what each subscriber has taken
abbrev pub all_taken : Relay ℕ → List (List (Item ℕ))
all_taken r = map (λ m. taken_of m.seat) r.members

abbrev pub keeping : ℕ → Setting
keeping cap = record { cap = cap; slow = keep_frame }

abbrev pub leaving_behind : ℕ → Setting
leaving_behind cap = record { cap = cap; slow = leave_behind }

abbrev pub one_and_part : Relay ℕ
one_and_part = begun (member 0 None ∷ member 1 (Some 2) ∷ [])

abbrev pub odd_ranges : Relay ℕ
odd_ranges = begun (member 2 None ∷ member 1 (Some 1) ∷ member 5 None ∷ [])

abbrev pub alone : Relay ℕ
alone = begun (member 0 None ∷ [])

-- a frame comes with every second piece
abbrev pub half_pieces : List (List ℕ)
half_pieces = [] ∷ (6 ∷ []) ∷ [] ∷ (7 ∷ []) ∷ []

-- a frame comes with every piece
abbrev pub one_each : List (List ℕ)
one_each = (6 ∷ []) ∷ (7 ∷ []) ∷ (8 ∷ []) ∷ (9 ∷ []) ∷ []

pub record WorkedTurns : Type 0 where
  -- one from the start, and one that leaves at the end
  pub part : all_taken (twice_more (keeping 8) (after (keeping 8) ((6 ∷ 7 ∷ []) ∷ []) one_and_part))
      ≡ (One 6 ∷ One 7 ∷ Ended Completed ∷ []) ∷ (One 7 ∷ Ended Left ∷ []) ∷ []
  -- the same where a queue holds one frame, and a piece half of one
  pub narrow : all_taken (twice_more (keeping 1) (twice_more (keeping 1) (after (keeping 1) half_pieces one_and_part)))
      ≡ (One 6 ∷ One 7 ∷ Ended Completed ∷ []) ∷ (One 7 ∷ Ended Left ∷ []) ∷ []
  -- in the first of its turns the second frame waits
  pub waits : (turn (keeping 1) (6 ∷ 7 ∷ []) None one_and_part).waiting ≡ 7 ∷ []
  -- one that begins where the input ends, one without a frame, and one behind the end
  pub odd : all_taken (twice_more (keeping 8) (after (keeping 8) ((6 ∷ 7 ∷ []) ∷ []) odd_ranges))
      ≡ (Ended Completed ∷ []) ∷ (Ended Left ∷ []) ∷ (Ended Completed ∷ []) ∷ []
  -- both frames come in one turn, and there is room for one
  pub behind : all_taken (twice_more (leaving_behind 1) (after (leaving_behind 1) ((6 ∷ 7 ∷ []) ∷ []) alone))
      ≡ (One 6 ∷ Ended Lagged ∷ []) ∷ []
  -- one frame comes in a turn, and there is room for two
  pub keeps_up : all_taken (twice_more (leaving_behind 2) (after (leaving_behind 2) one_each alone))
      ≡ (One 6 ∷ One 7 ∷ One 8 ∷ One 9 ∷ Ended Completed ∷ []) ∷ []
