use Rattle.std.proofs.Common.{arith}
use Rattle.handoff.proofs.Steps.{looks}
use Rattle.handoff.proofs.meeting.Meeting.look_for_item.Goals as goal

pub load-requires : goal.load-requires
load-requires g c = (c.requires.table, omega (arith, c.args.self.now.sized.0), looks _ g.J.Work.takes g.J.Work.does _ _ _ c.requires.waits)
