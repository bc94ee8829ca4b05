use Rattle.iobuf_node.proofs.Kept.{made_keeps}
use Rattle.iobuf_node.proofs.node.IoBufOf.take_ownership.Goals as goal

pub returns-in-Ok-clause-totals : goal.returns-in-Ok-clause-totals
returns-in-Ok-clause-totals g c = made_keeps _ _ _ _ c.in-Ok.hold _ _ c.on.result c.in-Ok.ensures.hold c.on.ensures
