use Rattle.std.proofs.Common.{arith, ap}
use Rattle.handoff.proofs.Steps.{hires}
use Rattle.handoff.proofs.meeting.meet.Goals as goal

pub split_seat-worker-requires : goal.split_seat-worker-requires
split_seat-worker-requires g c = let is = c.in_ok-table.ensures in (is.2, omega (arith, is.0), hires _ g.J.Work.takes g.J.Work.does _ _ (ap (λ m. m.0) is.4))
