use Rattle.std.proofs.Common.{ap, ◌∙◌, sym}
use Rattle.std.specs.Option.{is_some}
use Rattle.broadcast_hub.specs.Hubs.{feed_of}
use Rattle.broadcast_hub.proofs.Places.{at_holds}
use Rattle.broadcast_hub.proofs.hub.Hub.holds.Goals as goal

pub returns : goal.returns
returns c = c.is_some.ensures ∙ at_holds c.args.id c.deref.result.now c.find.result c.find.ensures
    ∙ ap (λ ss. is_some (feed_of c.args.id ss)) (c.deref.ensures.value ∙ ap (λ h. h.kept) c.self.view_is)
