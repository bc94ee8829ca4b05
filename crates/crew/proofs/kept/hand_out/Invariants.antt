use Rattle.std.proofs.Common.{◌≡◌, ◌+◌, ◌≤◌, ◌++◌, length, min}
use Rattle.std.specs.List.{All}
use Rattle.std.specs.Vec.{vec_len, vec_capacity}
use Rattle.crew.specs.Batches.{items_of}
use Rattle.crew.proofs.kept.hand_out.Given as goal

abbrev pub invariant-loop-idle : goal.invariant-loop-idle
invariant-loop-idle g l = record {
  parted : l.fn.items.items ++ items_of l.fn.busy.items ≡ l.items.items ++ items_of l.busy.items;
  takes : All g.J.Work.takes l.items.items;
  kept : min l.keep (vec_len l.fn.items) ≤ vec_len l.items;
  given : vec_len l.fn.idle + length (items_of l.fn.busy.items) ≤ vec_len l.idle + length (items_of l.busy.items);
  fewer : vec_len l.items ≤ vec_len l.fn.items;
  whole : vec_len l.items + length (items_of l.busy.items) ≡ vec_len l.fn.items + length (items_of l.fn.busy.items);
  some : vec_len l.busy ≤ length (items_of l.busy.items);
  threads : vec_len l.idle + vec_len l.busy ≡ vec_len l.fn.idle + vec_len l.fn.busy;
  items_room : vec_capacity l.items ≡ vec_capacity l.fn.items;
  idle_room : vec_capacity l.idle ≡ vec_capacity l.fn.idle;
  busy_room : vec_capacity l.busy ≡ vec_capacity l.fn.busy;
}

abbrev pub decreases-loop-idle : goal.decreases-loop-idle
decreases-loop-idle g l = vec_len l.idle
