use Rattle.iobuf_node.proofs.Kept.{looked_then}
use Rattle.iobuf_node.proofs.node.IoBufOf.unshare_one.Goals as goal

pub returns-in-Shared-clause-totals : goal.returns-in-Shared-clause-totals
returns-in-Shared-clause-totals g c =
    looked_then _ _ c.args.self.now c.standing.new.self _ _ c.in-Shared.ensures.found c.move_out.ensures.totals
