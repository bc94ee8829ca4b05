use Rattle.iobuf_node.proofs.Windows.{writes_window}
use Rattle.iobuf_node.proofs.laws.writes_window.Goals as goal

pub returns : goal.returns
returns g c = writes_window
