use Rattle.iobuf_chain.proofs.Lists.{turns_at}
use Rattle.iobuf_chain.proofs.trims.trim_node_end.Goals as goal

pub returns : goal.returns
returns g c = turns_at _ _ _ _ _ _ _ _ c.swap-node.ensures.old c.swap-node.ensures.new c.trim_end.ensures.window c.swap.ensures.new
