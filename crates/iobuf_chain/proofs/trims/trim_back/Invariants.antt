-- The nodes from place i on lost their bytes, and the rest leave before them.
use Rattle.iobuf_chain.proofs.TrimmedEnds.{TrimsBack}
use Rattle.iobuf_chain.proofs.trims.trim_back.Given as goal

abbrev pub invariant-nodes : goal.invariant-nodes
invariant-nodes g l = TrimsBack l.fn.n l.i l.left l.fn.nodes l.nodes

abbrev pub decreases-nodes : goal.decreases-nodes
decreases-nodes g l = l.i
