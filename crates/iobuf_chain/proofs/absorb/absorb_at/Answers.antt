use Rattle.iobuf_chain.specs.Receipts.{absorbed}
use Rattle.iobuf_chain.proofs.Lists.{turns_at}
use Rattle.iobuf_chain.proofs.absorb.absorb_at.Goals as goal

pub returns-clause-node : goal.returns-clause-node
returns-clause-node g c =
    turns_at (absorbed c.args.receipt.weight) _ _ c.swap-node.result _ _ _ _ c.swap-node.ensures.old c.swap-node.ensures.new c.absorb.ensures.window
    c.swap.ensures.new
