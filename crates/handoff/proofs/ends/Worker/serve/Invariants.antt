use Rattle.std.proofs.Common.{◌≡◌, []}
use Rattle.std.specs.Arc.{arc_value}
use Rattle.handoff.specs.declared.rule.View.TheVariants.{Resting}
use Rattle.handoff.proofs.ends.Worker.serve.Given as goal

abbrev pub invariant-turns : goal.invariant-turns
invariant-turns g l = record {
  table : l.place.table_id ≡ (arc_value l.meeting).table.shared.table_id;
  waits : l.place.me ≡ (Resting, []);
}
