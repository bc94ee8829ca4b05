-- What a hub with its taps stands for: a state of the machine.
use Rattle.std.specs.Prelude.{◌≡◌, ◌⊎◌, ℕ, suc, ◌≤◌, true, List, [], ◌∷◌, ◌++◌, length, map, Some, ⊤}
use Rattle.sub_queue.specs.declared.items.End.{End}
use Rattle.sub_queue.specs.declared.items.Item.{Item}
use Rattle.sub_queue.specs.declared.items.Item.TheVariants.{One, Ended}
use Rattle.sub_queue.specs.Ends.{end_of}
use Rattle.frame_batch.specs.Batches.{Batched}
use Rattle.broadcast_hub.specs.declared.subscription.Standing.{Standing}
use Rattle.broadcast_hub.specs.declared.subscription.Standing.TheVariants.{Live, Leaving, Gone}
use Rattle.broadcast_hub.specs.Hubs.{Kept, Hubbed, end_sent}
use Rattle.hub_model.specs.Hub as model

-- what the tap of each subscription took, by id
abbrev pub Taps : Type 0
Taps = ℕ → List (Item Batched)

-- a subscription of the machine, and a state of it: their frames are lists of bytes
abbrev pub Sub : Type 0
Sub = model.Subscription (List ℕ)

abbrev pub Machine : Type 0
Machine = model.Hub (List ℕ)

-- items by frames: each item of the machine has one frame, each of a hub's queue a batch of them
abbrev pub by_frames : List (Item Batched) → List (Item (List ℕ))
by_frames [] = []
by_frames (One b ∷ items) = map One b.frames ++ by_frames items
by_frames (Ended end ∷ items) = Ended end ∷ by_frames items

-- no batch is without a frame
abbrev pub AreFilled : List (Item Batched) → Type 0
AreFilled [] = ⊤
AreFilled (One b ∷ items) = (1 ≤ length b.frames) × AreFilled items
AreFilled (Ended end ∷ items) = AreFilled items

abbrev pub standing_of : Standing → model.Standing
standing_of Live = model.live
standing_of (Leaving stop end) = model.leaving stop end
standing_of (Gone stop end) = model.gone stop end

-- the machine's subscription for one that a hub keeps, of which these items were taken and those are held
abbrev pub seen_as : List (Item Batched) → List (Item Batched) → Kept → Sub
seen_as taken held s = record {
  first = s.first;
  standing = standing_of s.standing;
  cap = s.feed.cap;
  taken = by_frames taken;
  held = by_frames held;
}

-- a subscription that a hub keeps, whose tap took these items, stands for one of the machine. The feed doesn't know
-- more to be taken than was, and an end was sent as the subscription stands
pub record StandsFor (taken : List (Item Batched)) (s : Kept) (m : Sub) : Type 0 where
  pub held : List (Item Batched)
  pub sent : s.feed.sent ≡ taken ++ held
  pub seen : m ≡ seen_as taken held s
  pub filled : AreFilled s.feed.sent
  pub known : s.feed.known ≤ length taken
  pub ended : end_of s.feed.sent ≡ end_sent s.standing

-- one that has left the hub: its end was sent, and its tap took everything, the end too
pub record HasLeft (taken : List (Item Batched)) (m : Sub) : Type 0 where
  pub end : End
  pub ended : end_of taken ≡ Some end
  pub gone : model.is_gone m.standing ≡ true
  pub took : m.taken ≡ by_frames taken
  pub held : m.held ≡ []

-- subscriptions that a hub keeps stand for those of the machine from this id on, of which the others have left
abbrev pub StandFrom : Taps → ℕ → List Kept → List Sub → Type 0
StandFrom taps id [] [] = ⊤
StandFrom taps id (s ∷ ss) [] = ⊥
StandFrom taps id [] (m ∷ ms) = HasLeft (taps id) m × StandFrom taps (suc id) [] ms
StandFrom taps id (s ∷ ss) (m ∷ ms) =
    ((s.id ≡ id) × StandsFor (taps id) s m × StandFrom taps (suc id) ss ms)
    ⊎ (HasLeft (taps id) m × StandFrom taps (suc id) (s ∷ ss) ms)

-- a hub stands for a state of the machine: as many frames were published, it is closed with the same end if it is, as
-- many subscriptions came, and each stands for that of its id
pub record Stands (taps : Taps) (hub : Hubbed) (m : Machine) : Type 0 where
  pub published : length m.published ≡ hub.published
  pub closed : m.closed ≡ hub.closed
  pub next : length m.subscriptions ≡ hub.next
  pub each : StandFrom taps 0 hub.kept m.subscriptions

-- these events lead from a hub to another: whatever the one stands for, the other stands for the state after them
abbrev pub Leads : List (model.Event (List ℕ)) → Taps → Hubbed → Taps → Hubbed → Type 0
Leads es taps old taps_then new = (m : Machine) → Stands taps old m → Stands taps_then new (model.after m es)
