-- What the nodes so far handed back.
use Rattle.std.proofs.Common.{◌+◌, ◌≤◌, length}
use Rattle.std.specs.VecDeque.{deque_capacity}
use Rattle.iobuf_chain.proofs.GivenBack.{HandsBack}
use Rattle.iobuf_chain.proofs.ends.give_rest_back.Given as goal

abbrev pub invariant-nodes : goal.invariant-nodes
invariant-nodes g l = record {
  backs : HandsBack g.O.Release.runs g.O.Release.last l.fn.nodes.items l.nodes.items l.backs.items;
  room : length l.backs.items + length l.nodes.items ≤ deque_capacity l.backs;
}

abbrev pub decreases-nodes : goal.decreases-nodes
decreases-nodes g l = length l.nodes.items
