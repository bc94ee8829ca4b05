use Rattle.std.proofs.Common.{◌+◌, ◌∙◌, Option, sym, ap, drop, arith}
use Rattle.frame_batch.specs.declared.window.Window.{Window}
use Rattle.pipeline.specs.Batches.{placed, then_placed}
use Rattle.pipeline.specs.Stages.{meaning_of, meanings}
use Rattle.pipeline.proofs.Placing.{placed_more}
use Rattle.pipeline.proofs.Reading.{stage_there}
use Rattle.pipeline.proofs.windows.place.Goals as goal

pub returns-in_err-window : goal.returns-in_err-window
returns-in_err-window g c =
    let there = stage_there g.H.Handler.machine c.args.stages.now c.stages.i c.index-stages-i.result c.stages-test.true c.index-stages-i.is in
    let ms = meanings g.H.Handler.machine c.args.stages.now in
    c.from_residual.ensures
    ∙ sym
    (c.stages.invariant.window
    ∙ placed_more ms c.stages.i (meaning_of g.H.Handler.machine c.index-stages-i.result) c.stages.window c.place_by.result there c.place_by.ensures.is
    ∙ ap (λ (o : Option Window). then_placed o (placed (drop (c.stages.i + 1) ms))) c.in_err-window.was)

pub stages-preserved : goal.stages-preserved
stages-preserved g c =
    let there = stage_there g.H.Handler.machine c.args.stages.now c.stages.i c.index-stages-i.result c.stages-test.true c.index-stages-i.is in
    let ms = meanings g.H.Handler.machine c.args.stages.now in
    record {
      window =
          c.stages.invariant.window
          ∙ placed_more ms c.stages.i (meaning_of g.H.Handler.machine c.index-stages-i.result) c.stages.window c.place_by.result there c.place_by.ensures.is
          ∙ ap (λ (o : Option Window). then_placed o (placed (drop (c.stages.i + 1) ms))) c.in_ok-window.was;
      within = (let w = c.in_ok-window.ensures.within in let had = c.stages.invariant.within in omega (arith, w, had));
    }
