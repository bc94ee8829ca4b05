-- The last of the batches were sent.
use Rattle.std.proofs.Common.{◌≡◌, ◌≤◌, length, vec_capacity}
use Rattle.broadcast_hub.specs.Sending.{SendsFrom}
use Rattle.broadcast_hub.proofs.sending.send_each.Given as goal

abbrev pub invariant-subs : goal.invariant-subs
invariant-subs g l = record {
  sends : SendsFrom l.left l.fn.batches.items l.batches.items l.fn.subs l.subs;
  within : l.left ≤ length l.subs;
  capacity : vec_capacity l.batches ≡ vec_capacity l.fn.batches;
}

abbrev pub decreases-subs : goal.decreases-subs
decreases-subs g l = l.left
