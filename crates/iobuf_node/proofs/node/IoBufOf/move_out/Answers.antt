use Rattle.buffer_model.specs.Share.{own}
use Rattle.iobuf_node.proofs.Kept.{moved_keeps}
use Rattle.iobuf_node.proofs.node.IoBufOf.move_out.Goals as goal

pub returns-in-Ok-clause-totals : goal.returns-in-Ok-clause-totals
returns-in-Ok-clause-totals g c =
    moved_keeps _ _ own c.args.self.now c.renew.new.self c.in-Ok.node _ c.in-Ok.ensures.node.storage c.renew.ensures.window c.renew.ensures.totals
