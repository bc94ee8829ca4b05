-- Sizes of items, and how much room they leave.
use Rattle.std.specs.Prelude.{◌≡◌, ℕ, ◌+◌, ◌≤◌, ◌<◌, List, [], ◌∷◌, ◌++◌, length, map, drop, ⊤}
use Rattle.sub_queue.specs.declared.items.Item.{Item}
use Rattle.sub_queue.specs.declared.items.Item.TheVariants.{One, Ended}
use Rattle.sub_queue.specs.declared.rule.Log.{Log}
use Rattle.sub_queue.specs.Ends.{Fed, Feeds}

abbrev pub total : List ℕ → ℕ
total [] = 0
total (x ∷ xs) = x + total xs

abbrev pub ArePositive : List ℕ → Type 0
ArePositive [] = ⊤
ArePositive (x ∷ xs) = (1 ≤ x) × ArePositive xs

-- the sizes that a feed keeps: the most that they may add up to, how many items went before them, and the sizes
pub record Sizes : Type 0 where
  pub cap : ℕ
  pub passed : ℕ
  pub sizes : List ℕ

-- the sizes add up to what is used, which is within the most, and there is room for so many sizes
abbrev pub AddUp : ℕ → ℕ → ℕ → List ℕ → Type 0
AddUp used cap places sizes = (used ≡ total sizes) × (used ≤ cap) × (cap ≤ places) × ArePositive sizes

-- the oldest sizes go, for the items up to this number and not beyond
abbrev pub CatchesUp : ℕ → Sizes → Sizes → Type 0
CatchesUp upto old new = (n : ℕ) × (n ≤ length old.sizes) × (old.passed + n ≤ upto)
    × (new ≡ record old { passed = old.passed + n; sizes = drop n old.sizes })

module _ {T : Type 0} where
  -- nothing changed but what the feed knows to be taken, and it knows no less
  abbrev pub Looked : Fed T → Fed T → Type 0
  Looked old new = (new ≡ record old { known = new.known }) × (old.known ≤ new.known) × (new.known ≤ length old.sent)

  -- the feed learned nothing
  abbrev pub KnowsSame : Fed T → Fed T → Type 0
  KnowsSame old new = new.known ≡ old.known

  -- what was to be sent comes back, and nothing was sent
  abbrev pub HandsBack : {X : Type 0} → X → Fed T → Fed T → X → Type 0
  HandsBack given old new back = (back ≡ given) × Looked old new

  -- an item was sent, and the feed may know more to be taken
  abbrev pub SentOne : Item T → Fed T → Fed T → Type 0
  SentOne x old new = (new ≡ record old { known = new.known; sent = old.sent ++ x ∷ [] })
      × (old.known ≤ new.known) × (new.known ≤ length old.sent)

module _ {T : Type 0} (w : T → ℕ) where
  -- an end has size 1
  abbrev pub size_of : Item T → ℕ
  size_of (One x) = w x
  size_of (Ended e) = 1

  abbrev pub weight_of : List (Item T) → ℕ
  weight_of [] = 0
  weight_of (x ∷ xs) = size_of x + weight_of xs

  -- the size of what isn't known to be taken
  abbrev pub behind : Fed T → ℕ
  behind f = weight_of (drop f.known f.sent)

  -- an item of this size has room, or hasn't, behind what isn't known to be taken
  abbrev pub HasRoom : ℕ → Fed T → Type 0
  HasRoom size f = behind f + size ≤ f.cap

  abbrev pub LacksRoom : ℕ → Fed T → Type 0
  LacksRoom size f = f.cap < behind f + size

  -- these are the sizes of all items but the first so many
  abbrev pub AreSizes : ℕ → List ℕ → List (Item T) → Type 0
  AreSizes known sizes items = (known + length sizes ≡ length items) × (sizes ≡ map size_of (drop known items))

  -- what a feed keeps: its pass, the sizes of what it doesn't know to be taken, and the number that it has heard of
  abbrev pub Keeps : Log (Item T) → Sizes → ℕ → Type 0
  Keeps v out heard = Feeds v × AreSizes out.passed out.sizes v.sent × (out.passed ≤ heard)
