use Rattle.std.proofs.Common.{refl, ap, sym, subst, ◌∙◌}
use Rattle.sub_queue.specs.declared.items.Item.TheVariants.{Ended}
use Rattle.broadcast_hub.specs.Hubs.{end_sent}
use Rattle.broadcast_hub.specs.declared.subscription.Standing.TheVariants.{Gone}
use Rattle.broadcast_hub.proofs.Feeds.{suits_on, ok_sent}
use Rattle.broadcast_hub.proofs.subscription.Subscription.flush.Goals as goal

pub invariant_of-self-2 : goal.invariant_of-self-2
invariant_of-self-2 g c =
    suits_on _ (Gone c.in-Leaving.stop c.in-Leaving.end) _ _ (Ended c.in-Leaving.end) c.self.invariant (ap end_sent c.in-Leaving.is)
    (ok_sent _ _ c.if-is_err.ensures.value c.finish.ensures.sent) refl
