-- The nodes so far were shared.
use Rattle.std.proofs.Common.{◌-◌, length}
use Rattle.iobuf_chain.proofs.Ranged.{SharesTo}
use Rattle.iobuf_chain.proofs.range.share_parts.Given as goal

abbrev pub invariant-nodes : goal.invariant-nodes
invariant-nodes g l = SharesTo l.fn.at l.fn.n l.fn.mint l.fn.nodes l.i l.before l.left l.mint l.nodes l.shares.items

abbrev pub decreases-nodes : goal.decreases-nodes
decreases-nodes g l = length l.fn.nodes - l.i
