-- None of the first has the id.
use Rattle.std.proofs.Common.{◌≡◌, take, None}
use Rattle.broadcast_hub.specs.Hubs.{feed_of}
use Rattle.broadcast_hub.proofs.members.find.Given as goal

abbrev pub invariant-subs : goal.invariant-subs
invariant-subs l = feed_of l.id (take l.i l.subs) ≡ None
