-- What contracts see of the two ends of a queue.
use Rattle.std.specs.Prelude.{◌≡◌, ◌⊎◌, ℕ, ◌≤◌, true, false, List, [], ◌∷◌, ◌++◌, length, Option, Some, None, ⊤}
use Rattle.atomic_table.specs.Seated.{TableId}
use Rattle.sub_queue.specs.Line.{log, Begins, Agree}
use Rattle.sub_queue.specs.declared.rule.Log.{Log}
use Rattle.sub_queue.specs.declared.items.End.{End}
use Rattle.sub_queue.specs.declared.items.Item.{Item}
use Rattle.sub_queue.specs.declared.items.Item.TheVariants.{One, Ended}
use Rattle.sub_queue.specs.declared.items.Taken.{Taken}
use Rattle.sub_queue.specs.declared.items.Taken.TheVariants as took

-- which queue it is: where its items lie, and where what was taken is counted
pub record QueueId : Type 0 where
  pub items : TableId
  pub count : TableId

-- a feed: its queue, the most that this holds in size, what was sent, and how many items of that it knows to be taken
pub record Fed (T : Type 0) : Type 0 where
  pub line : QueueId
  pub cap : ℕ
  pub sent : List (Item T)
  pub known : ℕ

-- a tap: its queue, what was taken, and what it knows to be sent
pub record Tapped (T : Type 0) : Type 0 where
  pub line : QueueId
  pub taken : List (Item T)
  pub told : List (Item T)

module _ {T : Type 0} where
  -- the end in a list of items
  abbrev pub end_of : List (Item T) → Option End
  end_of [] = None
  end_of (One x ∷ xs) = end_of xs
  end_of (Ended e ∷ xs) = Some e

  -- nothing stands behind an end
  abbrev pub EndIsLast : List (Item T) → Type 0
  EndIsLast [] = ⊤
  EndIsLast (One x ∷ xs) = EndIsLast xs
  EndIsLast (Ended e ∷ xs) = xs ≡ []

  -- one item more was taken
  abbrev pub TookOne : Item T → Tapped T → Tapped T → Type 0
  TookOne x old new = (end_of old.taken ≡ None) × (new ≡ record old { taken = old.taken ++ x ∷ [] })

  -- nothing was taken, and each item that the tap knows of was taken before
  abbrev pub IsDry : Tapped T → Tapped T → Type 0
  IsDry old new = (new ≡ old) × (length old.told ≤ length old.taken)

  -- the answers of a take: the next item; nothing, where each item that the tap knows of was taken; the end, which was
  -- taken before or is the next item
  abbrev pub Took : Tapped T → Tapped T → Taken T → Type 0
  Took old new (took.One x) = TookOne (One x) old new
  Took old new took.Empty = (end_of old.taken ≡ None) × IsDry old new
  Took old new (took.Ended e) = (end_of new.taken ≡ Some e) × ((new ≡ old) ⊎ TookOne (Ended e) old new)

  -- what a meeting tells: what was taken, and what the tap knew of, are beginnings of what was sent; the feed knew of
  -- nothing as taken that wasn't
  abbrev pub Agrees : Fed T → Tapped T → Type 0
  Agrees feed tap = Begins tap.taken feed.sent × Begins tap.told feed.sent × (feed.known ≤ length tap.taken)

  -- what the pass in a feed knows
  abbrev pub Feeds : Log (Item T) → Type 0
  Feeds v = (v ≡ log true false v.sent [] []) × EndIsLast v.sent

  -- what the pass in a tap knows, and the end that was taken
  abbrev pub Taps : Log (Item T) → Option End → Type 0
  Taps v ended = (v ≡ log false true [] v.taken v.told) × Agree v.taken v.told × EndIsLast v.told
      × (ended ≡ end_of v.taken)

  -- what a tap keeps: its pass, the end that was taken, and the number that it told
  abbrev pub Counted : Log (Item T) → Option End → ℕ → Type 0
  Counted v ended told = Taps v ended × (told ≡ length v.taken)

  abbrev pub fed : TableId → TableId → ℕ → List (Item T) → ℕ → Fed T
  fed items count cap sent known = record {
    line = record { items = items; count = count };
    cap = cap;
    sent = sent;
    known = known;
  }

  abbrev pub tapped : TableId → TableId → List (Item T) → List (Item T) → Tapped T
  tapped items count taken told = record { line = record { items = items; count = count }; taken = taken; told = told }

  -- the ends of a new queue
  abbrev pub fed_anew : QueueId → ℕ → Fed T
  fed_anew line cap = record { line = line; cap = cap; sent = []; known = 0 }

  abbrev pub tapped_anew : QueueId → Tapped T
  tapped_anew line = record { line = line; taken = []; told = [] }
