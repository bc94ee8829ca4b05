use Rattle.std.proofs.Common.{◌≡◌, ◌+◌, ◌≤◌, ◌++◌, List, length}
use Rattle.std.specs.List.{AllZip}
use Rattle.std.specs.Vec.{vec_len, vec_capacity}
use Rattle.crew.specs.Batches.{items_of}
use Rattle.crew.proofs.kept.take_in.Given as goal

abbrev pub invariant-loop-one : goal.invariant-loop-one
invariant-loop-one g l = record {
  back : (out : List g.row.J.Denot) × (came : List g.row.J.Denot) × (items_of l.fn.busy.items ≡ out ++ items_of l.busy.items) × (l.items.items ≡ l.fn.items.items ++ came) × AllZip g.J.Work.does out came;
  room : vec_len l.items + length (items_of l.busy.items) ≤ vec_capacity l.items;
  threads : vec_len l.idle + vec_len l.busy ≡ vec_len l.fn.idle + vec_len l.fn.busy;
  idle_room : vec_capacity l.idle ≡ vec_capacity l.fn.idle;
  busy_room : vec_capacity l.busy ≡ vec_capacity l.fn.busy;
}

abbrev pub decreases-loop-one : goal.decreases-loop-one
decreases-loop-one g l = vec_len l.busy
