-- Why somebody wasn't subscribed.
use Rattle.std.specs.Prelude.{◌≡◌, ◌<◌, ◌≤◌, Some, None}
use Rattle.sub_queue.specs.Ends.{Fed}
use Rattle.frame_batch.specs.Batches.{Batched}
use Rattle.broadcast_hub.specs.declared.answers.SubFault.{SubFault}
use Rattle.broadcast_hub.specs.declared.answers.SubFault.TheVariants.{Closed, Full256, NoMemory}
use Rattle.broadcast_hub.specs.Hubs.{Hubbed, here_in, most_here}

-- the hub is closed with this end; or it is open, and as many are here as may be; or there is no memory. The feed comes
-- back
abbrev pub IsTurnedAway : Fed Batched → Hubbed → SubFault → Type 0
IsTurnedAway feed hub (Closed end back) = (hub.closed ≡ Some end) × (back ≡ feed)
IsTurnedAway feed hub (Full256 back) = (hub.closed ≡ None) × (most_here ≤ here_in hub.kept) × (back ≡ feed)
IsTurnedAway feed hub (NoMemory back) = (hub.closed ≡ None) × (here_in hub.kept < most_here) × (back ≡ feed)
