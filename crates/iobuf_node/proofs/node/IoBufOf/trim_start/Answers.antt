use Rattle.std.proofs.Common.{arith}
use Rattle.buffer_model.proofs.Windows.{trims_start}
use Rattle.iobuf_node.proofs.node.IoBufOf.trim_start.Goals as goal

pub overflow_add-self : goal.overflow_add-self
overflow_add-self g c = omega (arith, c.headroom-start.ensures.fits)

pub returns-clause-window : goal.returns-clause-window
returns-clause-window g c = trims_start _ _ _ _ _ c.self.view_is _ _ _ c.requires (omega arith) (omega arith)
