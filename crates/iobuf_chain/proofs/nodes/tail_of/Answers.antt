use Rattle.std.proofs.Common.{refl, ap, ◌∙◌, take}
use Rattle.iobuf_chain.specs.Tails.{filled_tail}
use Rattle.iobuf_chain.proofs.Tailed.{tail_seen}
use Rattle.iobuf_chain.proofs.nodes.tail_of.Goals as goal

pub returns : goal.returns
returns g c = (
  (refl, λ w. tail_seen c.alone_mut.result.now w ∙ ap (λ s. filled_tail s w) c.alone_mut.ensures.window),
  record { lends = tt; value = c.tail_mut.ensures.value ∙ ap (λ s. take c.args.n s.after) c.alone_mut.ensures.window },
)
