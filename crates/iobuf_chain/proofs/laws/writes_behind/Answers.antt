use Rattle.iobuf_chain.proofs.Tailed.{writes_behind}
use Rattle.iobuf_chain.proofs.laws.writes_behind.Goals as goal

pub returns : goal.returns
returns g c = writes_behind
