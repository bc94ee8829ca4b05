use Rattle.std.proofs.Common.{◌≡◌}
use Rattle.broadcast_hub.specs.Leaving.{left}
use Rattle.broadcast_hub.proofs.Places.{zip_of, map_of}
use Rattle.broadcast_hub.proofs.leaving.leave_all.Goals as goal

pub returns : goal.returns
returns c = map_of _ _ _ (zip_of (λ s t. t ≡ left c.args.stop c.args.end s) _ _ _ c.subs.invariant c.subs-test.false)
