use Rattle.std.proofs.Common.{◌≡◌}
use Rattle.handoff.proofs.meeting.Meeting.await_item.Given as goal

abbrev pub invariant-looks : goal.invariant-looks
invariant-looks g l = record {
  table : l.place.table_id ≡ l.fn.place.table_id;
  view : l.place.me ≡ l.fn.place.me;
}
