use Rattle.broadcast_hub.specs.Sending.{IsLeastOf}
use Rattle.broadcast_hub.proofs.sending.least_room.Given as goal

abbrev pub invariant-subs : goal.invariant-subs
invariant-subs l = IsLeastOf l.most l.least l.id l.subs l.i
