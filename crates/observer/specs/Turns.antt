-- A turn of a drainer.
use Rattle.std.specs.Prelude.{◌≡◌, ℕ, ◌+◌, ◌≤◌, List, length, take}
use Rattle.frame_batch.specs.Batches.{Batched}
use Rattle.sub_queue.specs.declared.items.Item.{Item}
use Rattle.observer.specs.declared.turn.Turn.{Turn}
use Rattle.observer.specs.Items.{batches_in}
use Rattle.observer.specs.Drains.{Drain, Drains}
use Rattle.observer.specs.Returning.{GivesAllBack}
use Rattle.observer.specs.Taking.{Takes}

-- up to `upto` items were taken, written out and counted, and the batches among them given back; where so many more
-- are known to have been sent, just these were taken
pub record Turned (upto : ℕ) (old new : Drain) (turn : Turn) : Type 0 where
  pub items : List (Item Batched)
  pub takes : Takes upto items old.tap new.tap turn
  pub drains : Drains items old new
  pub returns : GivesAllBack (batches_in items) new.returns
  pub known : length old.tap.taken + upto ≤ length old.tap.told
      → new.tap.taken ≡ take (length old.tap.taken + upto) old.tap.told
