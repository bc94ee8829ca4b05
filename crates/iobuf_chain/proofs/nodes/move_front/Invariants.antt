-- So many items have moved.
use Rattle.std.proofs.Common.{◌≡◌, ◌++◌, take, drop}
use Rattle.std.specs.VecDeque.{deque_capacity}
use Rattle.iobuf_chain.proofs.nodes.move_front.Given as goal

abbrev pub invariant-moves : goal.invariant-moves
invariant-moves g l = record {
  taken : l.into.items ≡ l.fn.into.items ++ take l.counter l.fn.from.items;
  left : l.from.items ≡ drop l.counter l.fn.from.items;
  capacity : deque_capacity l.into ≡ deque_capacity l.fn.into;
}
