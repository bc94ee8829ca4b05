-- The first are as they are to be, and the others as they were.
use Rattle.std.proofs.Common.{◌≡◌}
use Rattle.broadcast_hub.specs.Leaving.{left}
use Rattle.broadcast_hub.specs.Sending.{Through}
use Rattle.broadcast_hub.proofs.leaving.leave_all.Given as goal

abbrev pub invariant-subs : goal.invariant-subs
invariant-subs l = Through (λ s t. t ≡ left l.stop l.end s) l.i l.fn.subs l.subs
