use Rattle.iobuf_chain.proofs.Shared.{node_rejoined}
use Rattle.iobuf_chain.proofs.share.rejoin_node.Goals as goal

pub returns : goal.returns
returns g c = node_rejoined _ _ _ _ _ c.swap-node.result c.rejoin.new.node _ c.swap-node.ensures.old c.swap-node.ensures.new c.rejoin.ensures c.swap.ensures.new
