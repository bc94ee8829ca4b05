use Rattle.std.proofs.Common.{◌≡◌, arith}
use Rattle.buffer_model.specs.Segment.{bytes_of}
use Rattle.frame_batch.specs.Batches.{AreIn, frames_in}
use Rattle.pipeline.specs.Batches.{answers, lettered}
use Rattle.pipeline.specs.Stages.{meanings}
use Rattle.pipeline.proofs.Placing.{if_ok_as, placing_ends, placing_step}
use Rattle.pipeline.proofs.windows.place_all.Goals as goal

pub frames-preserved : goal.frames-preserved
frames-preserved g c =
    placing_step (meanings g.H.Handler.machine c.args.stages.now) (bytes_of c.args.batch.now.chain) c.args.batch.now.frames c.frames.i c.frames.windows.items
    c.place_next.new.windows.items c.window.result c.requires c.frames.invariant c.window.ensures.frame c.window.ensures.within c.in_ok-place_next.ensures

pub returns-clause-within : goal.returns-clause-within
returns-clause-within g c =
    if_ok_as (λ ws. AreIn (bytes_of c.args.batch.now.chain) ws) c.frames.windows.items c.new.result c.new.ensures c.frames.invariant.within

pub returns-clause-frames : goal.returns-clause-frames
returns-clause-frames g c =
    let ms = meanings g.H.Handler.machine c.args.stages.now in
    let all = bytes_of c.args.batch.now.chain in
    if_ok_as (λ ws. frames_in (lettered ms all) ws ≡ answers ms c.args.batch.now.frames) c.frames.windows.items c.new.result c.new.ensures
    (placing_ends ms all c.args.batch.now.frames c.frames.i c.frames.windows.items c.frames.invariant
    (let high = c.frames-test.false in let end = c.len-i-end.ensures in omega (arith, high, end)))
