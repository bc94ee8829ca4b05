-- What is in items and in batches.
use Rattle.std.specs.Prelude.{List, [], ◌∷◌, ◌++◌, ℕ}
use Rattle.storage.specs.declared.release.NoOwner.{NoOwner}
use Rattle.buffer_model.specs.Segment.{Segment}
use Rattle.frame_batch.specs.Batches.{Batched}
use Rattle.sub_queue.specs.declared.items.Item.{Item}
use Rattle.sub_queue.specs.declared.items.Item.TheVariants.{One, Ended}

-- the batches among items, an end being none
abbrev pub batches_in : List (Item Batched) → List Batched
batches_in [] = []
batches_in (One b ∷ xs) = b ∷ batches_in xs
batches_in (Ended e ∷ xs) = batches_in xs

-- the frames of batches
abbrev pub frames_in : List Batched → List (List ℕ)
frames_in [] = []
frames_in (b ∷ bs) = b.frames ++ frames_in bs

-- the frames among items
abbrev pub frames_taken : List (Item Batched) → List (List ℕ)
frames_taken items = frames_in (batches_in items)

-- the nodes of batches
abbrev pub nodes_in : List Batched → List (Segment NoOwner)
nodes_in [] = []
nodes_in (b ∷ bs) = b.chain ++ nodes_in bs
