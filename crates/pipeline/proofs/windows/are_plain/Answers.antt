use Rattle.iobuf_chain.proofs.Lists.{all_more}
use Rattle.pipeline.specs.Meanings.{IsPlain}
use Rattle.pipeline.specs.Stages.{meaning_of, meanings}
use Rattle.pipeline.proofs.Placing.{not_plain}
use Rattle.pipeline.proofs.Reading.{stage_there}
use Rattle.pipeline.proofs.windows.are_plain.Goals as goal

pub returns-then-not-is_plain : goal.returns-then-not-is_plain
returns-then-not-is_plain g c =
    let there = stage_there g.H.Handler.machine c.args.stages.now c.stages.i c.index-stages-i.result c.stages-test.true c.index-stages-i.is in
    not_plain (meanings g.H.Handler.machine c.args.stages.now) c.stages.i (meaning_of g.H.Handler.machine c.index-stages-i.result) c.is_plain.result there c.if-not-is_plain.true c.is_plain.ensures

pub stages-preserved : goal.stages-preserved
stages-preserved g c =
    let there = stage_there g.H.Handler.machine c.args.stages.now c.stages.i c.index-stages-i.result c.stages-test.true c.index-stages-i.is in
    all_more IsPlain c.stages.i (meanings g.H.Handler.machine c.args.stages.now) (meaning_of g.H.Handler.machine c.index-stages-i.result) c.stages.invariant there
    (c.is_plain.ensures.0 c.if-not-is_plain.false)
