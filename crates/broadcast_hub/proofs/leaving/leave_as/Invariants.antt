-- The first are as they are to be, and the others as they were.
use Rattle.std.proofs.Common.{◌≡◌, take}
use Rattle.broadcast_hub.specs.Hubs.{has_live}
use Rattle.broadcast_hub.specs.Leaving.{left_as}
use Rattle.broadcast_hub.specs.Sending.{Through}
use Rattle.broadcast_hub.proofs.leaving.leave_as.Given as goal

abbrev pub invariant-subs : goal.invariant-subs
invariant-subs l = record {
  through : Through (λ s t. t ≡ left_as l.id l.stop l.end s) l.i l.fn.subs l.subs;
  did : l.did ≡ has_live l.id (take l.i l.fn.subs);
}
