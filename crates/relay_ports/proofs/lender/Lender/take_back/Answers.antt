use Rattle.std.proofs.Common.{◌<◌}
use Rattle.std.proofs.lemmas.List.Elements.{All-same}
use Rattle.std.proofs.lemmas.Map.Views.{All-remove_key}
use Rattle.relay_ports.proofs.lender.Lender.take_back.Goals as goal

pub invariant_of-self : goal.invariant_of-self
invariant_of-self c = (
  All-same (λ n. n < c.self.inside.lends) _ _ c.remove-was_out.ensures.keys (All-remove_key _ (λ n. n < c.self.inside.lends) _ c.self.invariant.0),
  c.remove-was_out.ensures.ordered,
)
