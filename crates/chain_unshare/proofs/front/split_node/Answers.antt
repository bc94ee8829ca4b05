use Rattle.iobuf_chain.proofs.Rejoined.{regains_each}
use Rattle.chain_unshare.proofs.Splitting.{clone_adds}
use Rattle.chain_unshare.proofs.front.split_node.Goals as goal

pub returns-in-Ok-clause-mint : goal.returns-in-Ok-clause-mint
returns-in-Ok-clause-mint g c = let cut = c.in-Ok.ensures.cut in clone_adds _ _ cut.node cut.left cut.clone cut.clones

pub returns-in-Err-clause-refused : goal.returns-in-Err-clause-refused
returns-in-Err-clause-refused g c = regains_each _ _ c.in-Err.ensures.refused.0
