-- So many nodes had their turn.
use Rattle.std.proofs.Common.{◌+◌, ◌≤◌, length}
use Rattle.std.specs.VecDeque.{deque_capacity}
use Rattle.pipeline.proofs.Sifting.{Sifting}
use Rattle.pipeline.proofs.cut.sift.Given as goal

abbrev pub invariant-nodes : goal.invariant-nodes
invariant-nodes l = record {
  sifting : Sifting l.fn.at l.fn.n l.fn.frame l.counter l.at l.left l.frame l.fn.backs.items l.backs.items;
  room : length l.fn.frame + length l.fn.backs.items ≤ deque_capacity l.backs;
}
