use Rattle.std.proofs.Common.{arith}
use Rattle.buffer_model.proofs.Windows.{trims_end}
use Rattle.iobuf_node.proofs.node.IoBufOf.trim_end.Goals as goal

pub returns-clause-window : goal.returns-clause-window
returns-clause-window g c = trims_end _ _ _ _ _ c.self.view_is _ _ _ c.requires (omega arith) (omega arith)
