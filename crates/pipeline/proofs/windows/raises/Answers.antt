use Rattle.std.proofs.Common.{◌∙◌, sym}
use Rattle.pipeline.specs.Stages.{meaning_of, meanings}
use Rattle.pipeline.proofs.Placing.{upper_at, upper_behind}
use Rattle.pipeline.proofs.Reading.{stage_there}
use Rattle.pipeline.proofs.windows.raises.Goals as goal

pub returns-then-is_upper : goal.returns-then-is_upper
returns-then-is_upper g c =
    let there = stage_there g.H.Handler.machine c.args.stages.now c.stages.i c.index-stages-i.result c.stages-test.true c.index-stages-i.is in
    sym (c.stages.invariant ∙ upper_at (meanings g.H.Handler.machine c.args.stages.now) c.stages.i (meaning_of g.H.Handler.machine c.index-stages-i.result) there (sym c.if-is_upper.ensures))

pub stages-preserved : goal.stages-preserved
stages-preserved g c =
    let there = stage_there g.H.Handler.machine c.args.stages.now c.stages.i c.index-stages-i.result c.stages-test.true c.index-stages-i.is in
    c.stages.invariant ∙ upper_behind (meanings g.H.Handler.machine c.args.stages.now) c.stages.i (meaning_of g.H.Handler.machine c.index-stages-i.result) there (sym c.if-is_upper.ensures)
