-- The first were looked at, and the others are as they were.
use Rattle.std.proofs.Common.{◌≡◌}
use Rattle.broadcast_hub.specs.Publishing.{Looks}
use Rattle.broadcast_hub.specs.Sending.{Through}
use Rattle.broadcast_hub.proofs.sending.look_where_short.Given as goal

abbrev pub invariant-subs : goal.invariant-subs
invariant-subs g l = record {
  through : Through Looks l.i l.fn.subs l.subs;
  none : l.frames ≡ 0 → l.subs ≡ l.fn.subs;
}
