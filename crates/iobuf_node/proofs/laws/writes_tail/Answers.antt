use Rattle.iobuf_node.proofs.Windows.{writes_tail}
use Rattle.iobuf_node.proofs.laws.writes_tail.Goals as goal

pub returns : goal.returns
returns g c = writes_tail
