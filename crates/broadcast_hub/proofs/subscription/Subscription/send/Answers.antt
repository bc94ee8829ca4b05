use Rattle.std.proofs.Common.{refl, ap, ◌∙◌, sym}
use Rattle.sub_queue.specs.declared.items.Item.TheVariants.{One}
use Rattle.broadcast_hub.specs.Hubs.{is_live}
use Rattle.broadcast_hub.proofs.Feeds.{suits_on, live_is_open}
use Rattle.broadcast_hub.proofs.subscription.Subscription.send.Goals as goal

pub invariant_of-self : goal.invariant_of-self
invariant_of-self g c =
    let none = live_is_open c.self.inside.standing (ap (λ s. is_live s.standing) c.self.view_is ∙ c.requires.live) in
    suits_on _ c.self.inside.standing _ _ (One c.args.batch) c.self.invariant none c.in-Ok.ensures.sent (sym none)
