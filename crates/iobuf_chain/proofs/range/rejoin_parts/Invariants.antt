-- The nodes so far have what they had, whatever that was.
use Rattle.std.proofs.Common.{◌≡◌, List, length}
use Rattle.buffer_model.specs.Segment.{Segment}
use Rattle.iobuf_chain.specs.Shares.{IsSharedSo}
use Rattle.iobuf_chain.proofs.Ranged.{RegainsTo}
use Rattle.iobuf_chain.proofs.range.rejoin_parts.Given as goal

abbrev pub invariant-nodes : goal.invariant-nodes
invariant-nodes g l = record {
  regains : (had : List (Segment g.row.O.Denot)) → IsSharedSo l.fn.at l.fn.n had l.fn.nodes l.fn.shares.items
      → RegainsTo l.i l.before l.left had l.nodes l.shares.items;
  size : length l.nodes ≡ length l.fn.nodes;
}
