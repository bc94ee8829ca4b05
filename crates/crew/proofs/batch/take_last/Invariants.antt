use Rattle.std.proofs.Common.{◌≡◌, ◌+◌, ◌++◌, reverse}
use Rattle.std.specs.Vec.{vec_len, vec_capacity}
use Rattle.crew.proofs.batch.take_last.Given as goal

abbrev pub invariant-loop : goal.invariant-loop
invariant-loop g l = record {
  parted : l.fn.items.items ≡ l.items.items ++ reverse l.batch.items;
  items_len : vec_len l.items + l.counter ≡ vec_len l.fn.items;
  batch_len : vec_len l.batch ≡ l.counter;
  items_room : vec_capacity l.items ≡ vec_capacity l.fn.items;
  batch_room : vec_capacity l.batch ≡ vec_capacity l.fn.batch;
}
