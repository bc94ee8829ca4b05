use Rattle.std.proofs.Common.{refl}
use Rattle.iobuf_node.proofs.Made.{rooms_on}
use Rattle.iobuf_node.proofs.Kept.{made_keeps}
use Rattle.iobuf_node.proofs.node.IoBufOf.copy.Goals as goal

pub returns-in-Ok-clause-node : goal.returns-in-Ok-clause-node
returns-in-Ok-clause-node g c = rooms_on _ _ _ c.args.head c.args.tail c.args.bytes.now c.in-Ok.hold _ _ c.in-Ok.ensures.hold refl c.on.ensures

pub returns-in-Ok-clause-totals : goal.returns-in-Ok-clause-totals
returns-in-Ok-clause-totals g c = made_keeps _ _ _ _ c.in-Ok.hold _ _ c.on.result c.in-Ok.ensures.hold c.on.ensures
