use Rattle.iobuf_node.proofs.Kept.{cloned_keeps}
use Rattle.iobuf_node.proofs.node.IoBufOf.clone_one.Goals as goal

pub returns-in-None-clause-totals : goal.returns-in-None-clause-totals
returns-in-None-clause-totals g c =
    cloned_keeps _ _ c.args.self.now c.clone_managed.new.self c.clone_managed.result c.clone_managed.ensures.clone c.clone_managed.ensures.refused
