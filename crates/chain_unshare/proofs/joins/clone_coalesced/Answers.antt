use Rattle.chain_unshare.proofs.Joining.{joined_totals}
use Rattle.chain_unshare.proofs.joins.clone_coalesced.Goals as goal

pub returns-clause-totals : goal.returns-clause-totals
returns-clause-totals g c = joined_totals _ _ _ c.join_first.result c.join_first.ensures.node
