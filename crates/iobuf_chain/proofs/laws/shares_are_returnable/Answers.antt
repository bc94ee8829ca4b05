use Rattle.iobuf_chain.proofs.ManyShared.{share_returns}
use Rattle.iobuf_chain.proofs.laws.shares_are_returnable.Goals as goal

pub returns : goal.returns
returns g c = share_returns
