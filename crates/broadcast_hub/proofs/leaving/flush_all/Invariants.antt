-- The ends of the first are sent or wait, and the others are as they were.
use Rattle.std.proofs.Common.{◌≡◌, ◌≤◌, take}
use Rattle.broadcast_hub.specs.Hubs.{leaving_in}
use Rattle.broadcast_hub.specs.Leaving.{Flushes}
use Rattle.broadcast_hub.specs.Sending.{Through}
use Rattle.broadcast_hub.proofs.leaving.flush_all.Given as goal

abbrev pub invariant-subs : goal.invariant-subs
invariant-subs g l = record {
  through : Through Flushes l.i l.fn.subs l.subs;
  waits : l.waits ≡ leaving_in (take l.i l.subs);
  most : l.waits ≤ l.i;
}
