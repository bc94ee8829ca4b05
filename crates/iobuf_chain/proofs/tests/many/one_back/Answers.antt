use Rattle.iobuf_chain.proofs.ManyShared.{share_returns}
use Rattle.iobuf_chain.proofs.tests.many.one_back.Goals as goal

pub rejoin-requires : goal.rejoin-requires
rejoin-requires c = share_returns _ _ _ _ _ c.in-Ok.ensures.shares
