use Rattle.std.proofs.Common.{◌≡◌}
use Rattle.crossbeam_queue.specs.Passes.{view, IsPassOf}
use Rattle.sub_queue.proofs.feed.push_until.Given as goal

abbrev pub invariant-tries : goal.invariant-tries
invariant-tries g l = record {
  line : IsPassOf l.line l.pass;
  table : l.pass.table_id ≡ l.fn.pass.table_id;
  same : view l.pass ≡ view l.fn.pass;
  item : l.item ≡ l.fn.item;
}
