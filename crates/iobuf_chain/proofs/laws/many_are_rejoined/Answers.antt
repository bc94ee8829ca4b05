use Rattle.iobuf_chain.proofs.ManyRegained.{many_are_rejoined}
use Rattle.iobuf_chain.proofs.laws.many_are_rejoined.Goals as goal

pub returns : goal.returns
returns g c = many_are_rejoined
