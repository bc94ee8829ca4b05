-- What batches hand back.
use Rattle.std.specs.Prelude.{◌≡◌, List, [], ◌∷◌, ◌++◌, length}
use Rattle.storage.specs.declared.release.NoOwner.{NoOwner}
use Rattle.storage.specs.declared.back.Back.{Back}
use Rattle.storage.specs.Back.{stakes_in}
use Rattle.buffer_model.specs.Stake.{Stake, KeepsTotals}
use Rattle.iobuf_chain.specs.Accounts.{held_by}
use Rattle.frame_batch.specs.Batches.{Batched}
use Rattle.observer.specs.Items.{nodes_in}

-- what lists of what was handed back have of storages
abbrev pub stakes_in_all : List (List (Back NoOwner)) → List (Stake NoOwner)
stakes_in_all [] = []
stakes_in_all (bs ∷ others) = stakes_in bs ++ stakes_in_all others

-- batches were given back, each by itself: what their nodes held of storages is in what they handed back
pub record GivesAllBack (batches : List Batched) (returns : List (List (Back NoOwner))) : Type 0 where
  pub each : length returns ≡ length batches
  pub totals : KeepsTotals (held_by (nodes_in batches)) (stakes_in_all returns)
