use Rattle.std.proofs.Common.{◌≡◌, ◌+◌, ◌≤◌, List, ◌++◌, length}
use Rattle.std.specs.VecDeque.{deque_capacity, deque_len}
use Rattle.frame_batch.specs.Batches.{Batched}
use Rattle.observer.specs.Returning.{GivesAllBack}
use Rattle.observer.proofs.giving.give_all_back.Given as goal

abbrev pub invariant-batches : goal.invariant-batches
invariant-batches l = record {
  given : (gone : List Batched) × (l.fn.batches.items ≡ gone ++ l.batches.items) × GivesAllBack gone l.returns.items;
  room : length l.returns.items + length l.batches.items ≤ deque_capacity l.returns;
  batches : deque_capacity l.batches ≡ deque_capacity l.fn.batches;
  returns : deque_capacity l.returns ≡ deque_capacity l.fn.returns;
}

abbrev pub decreases-batches : goal.decreases-batches
decreases-batches l = deque_len l.batches
