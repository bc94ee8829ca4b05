use Rattle.std.proofs.Common.{arith}
use Rattle.handoff.proofs.Steps.{closes}
use Rattle.handoff.proofs.meeting.Meeting.close.Goals as goal

pub store-requires : goal.store-requires
store-requires g c = (c.requires.table, omega (arith, c.args.self.now.sized.0), closes _ g.J.Work.takes g.J.Work.does _ _ _ c.requires.holds)
