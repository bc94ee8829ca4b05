use Rattle.std.proofs.Common.{refl}
use Rattle.buffer_model.specs.Share.{own}
use Rattle.iobuf_node.proofs.Kept.{moved_keeps}
use Rattle.iobuf_node.proofs.node.IoBufOf.reserve.Goals as goal

pub returns-in-Ok-clause-totals : goal.returns-in-Ok-clause-totals
returns-in-Ok-clause-totals g c =
    moved_keeps _ _ own c.args.self.now c.widen.new.self c.widen.new.self _ c.in-Ok.ensures.window.storage refl c.in-Ok.ensures.totals
