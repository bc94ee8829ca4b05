use Rattle.iobuf_chain.proofs.ManyBack.{stays_returnable}
use Rattle.iobuf_chain.proofs.laws.stays_returnable.Goals as goal

pub returns : goal.returns
returns g c = stays_returnable
