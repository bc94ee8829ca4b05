use Rattle.std.proofs.Common.{arith}
use Rattle.handoff.proofs.Steps.{hands}
use Rattle.handoff.proofs.meeting.Meeting.hand_over.Goals as goal

pub store-requires : goal.store-requires
store-requires g c = (c.requires.table, omega (arith, c.args.self.now.sized.0), hands _ g.J.Work.takes g.J.Work.does _ _ _ _ c.requires.has.1 c.requires.has.2)
