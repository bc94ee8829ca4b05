use Rattle.iobuf_node.proofs.Made.{filled_on}
use Rattle.iobuf_node.proofs.make.roomed.Goals as goal

pub returns-in-Ok-clause-hold : goal.returns-in-Ok-clause-hold
returns-in-Ok-clause-hold g c = filled_on _ _ _ c.args.head c.args.tail c.args.bytes.now c.in-Ok.hold c.filled.result c.in-Ok.ensures.hold c.filled.ensures
