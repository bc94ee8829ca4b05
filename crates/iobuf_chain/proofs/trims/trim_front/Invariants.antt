-- The nodes before place i lost their bytes, and the rest leave behind them.
use Rattle.std.proofs.Common.{length, ◌+◌, ◌-◌}
use Rattle.iobuf_chain.proofs.TrimmedEnds.{TrimsFront}
use Rattle.iobuf_chain.proofs.trims.trim_front.Given as goal

abbrev pub invariant-nodes : goal.invariant-nodes
invariant-nodes g l = TrimsFront l.fn.n l.i l.left l.fn.nodes l.nodes

abbrev pub decreases-nodes : goal.decreases-nodes
decreases-nodes g l = length l.nodes - l.i
