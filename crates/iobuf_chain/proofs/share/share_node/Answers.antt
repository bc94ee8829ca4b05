use Rattle.iobuf_chain.proofs.Shared.{node_cloned, node_stays}
use Rattle.iobuf_chain.proofs.share.share_node.Goals as goal

pub returns-in-Ok-clause-shares : goal.returns-in-Ok-clause-shares
returns-in-Ok-clause-shares g c =
    node_cloned _ _ _ _ _ _ _ c.swap-node.result c.clone_one-clone.new.self _ c.swap-node.ensures.old c.swap-node.ensures.new c.in-Ok.ensures.clone
    c.swap.ensures.new

pub returns-in-Err-clause-refused : goal.returns-in-Err-clause-refused
returns-in-Err-clause-refused g c = (
  node_stays _ _ _ _ _ c.swap-node.result c.clone_one-clone.new.self c.swap-node.ensures.old c.swap-node.ensures.new c.in-Err.ensures.refused.0
      c.swap.ensures.new,
  c.in-Err.ensures.refused.1,
)
