-- What a turn takes.
use Rattle.std.specs.Prelude.{◌≡◌, ℕ, ◌<◌, ◌≤◌, List, ◌++◌, None, Some, length}
use Rattle.frame_head.specs.Framed.{framed_text}
use Rattle.frame_batch.specs.Batches.{Batched}
use Rattle.sub_queue.specs.declared.items.Item.{Item}
use Rattle.sub_queue.specs.Ends.{Tapped, end_of}
use Rattle.observer.specs.declared.turn.Turn.{Turn}
use Rattle.observer.specs.declared.turn.Drained.{Drained}
use Rattle.observer.specs.declared.turn.Drained.TheVariants.{Done, Empty, Ended}
use Rattle.observer.specs.Flows.{Flow, Flows}
use Rattle.observer.specs.Items.{batches_in, frames_taken}

-- how a tap stands after so many of `upto` items were taken
abbrev pub Stands : ℕ → ℕ → Tapped Batched → Drained → Type 0
Stands upto took tap Done = (end_of tap.taken ≡ None) × (took ≡ upto)
Stands upto took tap Empty = (end_of tap.taken ≡ None) × (took < upto) × (length tap.told ≤ length tap.taken)
Stands upto took tap (Ended e) = end_of tap.taken ≡ Some e

-- items were taken
pub record Takes (upto : ℕ) (items : List (Item Batched)) (old new : Tapped Batched) (turn : Turn) : Type 0 where
  pub is : new ≡ record old { taken = old.taken ++ items }
  pub took : turn.took ≡ length items
  pub most : length items ≤ upto
  pub state : Stands upto (length items) new turn.state

-- items were taken, and the frames among them were printed
pub record TakesAll (upto : ℕ) (tap : Tapped Batched) (flow : Flow)
    (tap' : Tapped Batched) (flow' : Flow) (batches : List Batched) (turn : Turn) : Type 0 where
  pub items : List (Item Batched)
  pub takes : Takes upto items tap tap' turn
  pub kept : batches ≡ batches_in items
  pub flows : Flows (framed_text flow.out (frames_taken items)) flow flow'
