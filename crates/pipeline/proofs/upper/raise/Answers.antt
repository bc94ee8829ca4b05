use Rattle.pipeline.proofs.Cutting.{works_as, works_from}
use Rattle.pipeline.proofs.Working.{works_then, works_raise}
use Rattle.pipeline.proofs.upper.raise.Goals as goal

pub returns-in_err-reserve-clause-works : goal.returns-in_err-reserve-clause-works
returns-in_err-reserve-clause-works c = works_as _ _ _ _ c.in_err-reserve.ensures.items

pub returns-clause-works : goal.returns-clause-works
returns-clause-works c =
    works_then _ _ _ _ _ _ _ _ _ (works_from _ _ _ _ _ _ _ c.reserve.ensures.items c.in_ok-clear_each.ensures.works)
    (works_raise _ _ _ _ c.raise_each.ensures)
