use Rattle.std.proofs.Common.{◌≡◌, ◌-◌, ◌≤◌, None, length}
use Rattle.std.specs.VecDeque.{deque_capacity}
use Rattle.sub_queue.specs.Ends.{end_of}
use Rattle.observer.proofs.Taken.{TakesSome}
use Rattle.observer.proofs.taking.take_batches.Given as goal

abbrev pub invariant-items : goal.invariant-items
invariant-items g l = record {
  some : TakesSome l.took l.fn.tap l.fn.flow l.tap l.flow l.batches.items;
  none : end_of l.tap.taken ≡ None;
  most : l.took ≤ l.upto;
  count : length l.batches.items ≤ l.took;
  room : deque_capacity l.batches ≡ deque_capacity l.fn.batches;
}

abbrev pub decreases-items : goal.decreases-items
decreases-items g l = l.upto - l.took
