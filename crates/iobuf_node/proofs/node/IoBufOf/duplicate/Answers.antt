use Rattle.iobuf_node.proofs.Made.{copy_on}
use Rattle.iobuf_node.proofs.node.IoBufOf.duplicate.Goals as goal

pub returns-in-Ok-clause-node : goal.returns-in-Ok-clause-node
returns-in-Ok-clause-node g c =
    copy_on _ _ c.args.self.now _ _ c.in-Ok.hold c.block.result.now c.on.result c.in-Ok.ensures.hold c.block.ensures c.headroom-start.ensures.value c.length-len.ensures c.on.ensures
