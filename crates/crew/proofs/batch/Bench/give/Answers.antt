use Rattle.std.proofs.Common.{All, List, subst}
use Rattle.crew.proofs.Lists.{all_left, all_right}
use Rattle.crew.proofs.batch.Bench.give.Goals as goal

pub hand-requires : goal.hand-requires
hand-requires g c = record { takes = all_right g.J.Work.takes _ _ (subst (λ (l : List g.row.J.Denot). All g.J.Work.takes l) c.take_last.ensures.parted c.requires.takes) }

pub returns-clause-takes : goal.returns-clause-takes
returns-clause-takes g c = all_left g.J.Work.takes _ _ (subst (λ (l : List g.row.J.Denot). All g.J.Work.takes l) c.take_last.ensures.parted c.requires.takes)
