-- The rule of the queue's items: what the pass of each end knows of them.
use Rattle.std.specs.Prelude.{◌≡◌, ℕ, Bool, true, List, [], ◌∷◌, ◌++◌, ◌⊎◌}
use mathlib.Core.Option.{some}
use lib.ListN.{get_elem?}
use Rattle.sub_queue.specs.declared.rule.Log.{Log}

module _ {T : Type 0} where
  -- the second list is the first, with more behind it or not
  abbrev pub Begins : List T → List T → Type 0
  Begins xs ys = (more : List T) × (ys ≡ xs ++ more)

  -- the shorter of two lists is a beginning of the other
  abbrev pub Agree : List T → List T → Type 0
  Agree xs ys = Begins xs ys ⊎ Begins ys xs

  abbrev pub log : Bool → Bool → List T → List T → List T → Log T
  log feeds taps sent taken told = record { feeds = feeds; taps = taps; sent = sent; taken = taken; told = told }

  -- an item was taken through this pass
  abbrev pub TakesOne : Log T → T → Log T → Type 0
  TakesOne v x w = (w ≡ log v.feeds v.taps v.sent (v.taken ++ x ∷ []) v.told) × Agree (v.taken ++ x ∷ []) v.told

  -- a pass that feeds stands at `feed` and knows what was sent; one that taps stands at `tap`, and knows what was taken
  -- and a beginning of what was sent
  abbrev pub Fits : ℕ → ℕ → List T → List T → ℕ → Log T → Type 0
  Fits feed tap sent taken port v = (v.feeds ≡ true → (port ≡ feed) × (v.sent ≡ sent))
      × (v.taps ≡ true → (port ≡ tap) × (v.taken ≡ taken) × Begins v.told sent)

  -- what was sent is what was taken, and behind it what the queue holds
  abbrev pub Relayed : List T → List (Log T) → Type 0
  Relayed items views = (feed : ℕ) × (tap : ℕ) × (sent : List T) × (taken : List T) × (sent ≡ taken ++ items)
      × ((port : ℕ) (v : Log T) → get_elem? views port ≡ some v → Fits feed tap sent taken port v)
