use Rattle.std.proofs.Common.{arith}
use Rattle.handoff.proofs.Steps.{answers}
use Rattle.handoff.proofs.meeting.Meeting.give_answer.Goals as goal

pub store-requires : goal.store-requires
store-requires g c = (c.requires.table, omega (arith, c.args.self.now.sized.0), answers _ g.J.Work.takes g.J.Work.does _ _ _ _ _ c.requires.has.2 c.requires.has.3)
