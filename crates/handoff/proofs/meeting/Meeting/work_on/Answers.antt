use Rattle.std.proofs.Common.{Some, ap}
use Rattle.handoff.proofs.meeting.Meeting.work_on.Goals as goal

pub swap_slot-requires-clause-has : goal.swap_slot-requires-clause-has
swap_slot-requires-clause-has g c = (Some c.requires.has.0, ap (λ m. m.1) c.requires.has.1)
