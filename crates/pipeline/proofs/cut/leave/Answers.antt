use Rattle.pipeline.proofs.Swapping.{leaves_first}
use Rattle.pipeline.proofs.cut.leave.Goals as goal

pub returns : goal.returns
returns c =
    leaves_first _ c.args.frame.now c.pop.new.self c.pop.result c.give_back.result c.pop-2.new.self c.in-Some.back c.requires c.pop.ensures.taken
    c.pop.ensures.left c.give_back.ensures.backs c.give_back.ensures.totals c.in-Some.ensures
