use Rattle.std.proofs.Common.{◌≡◌, ap, sym, ◌∙◌, length}
use Rattle.buffer_model.specs.Segment.{bytes_of}
use Rattle.frame_batch.specs.Batches.{frame_in}
use Rattle.frame_writer.specs.Over.{over_of}
use Rattle.frame_writer.proofs.Lists.{first_next, none_before, some_here}
use Rattle.frame_writer.proofs.batches.check_batch.Goals as goal

pub frames-preserved : goal.frames-preserved
frames-preserved c =
    let size : length (frame_in (bytes_of c.args.batch.now.chain) c.window.result) ≡ c.from.result =
    c.window_has_its_size.ensures (bytes_of c.args.batch.now.chain) c.window.result c.window.ensures.within ∙ sym c.from.ensures in
    none_before _ _ _ _ (first_next c.args.out.now c.args.batch.now.frames _ c.frames.i c.window.ensures.frame) c.frames.invariant
    (ap (over_of c.args.out.now) size ∙ c.in_default.ensures)

pub returns-in-Err : goal.returns-in-Err
returns-in-Err c =
    let size : length (frame_in (bytes_of c.args.batch.now.chain) c.window.result) ≡ c.from.result =
    c.window_has_its_size.ensures (bytes_of c.args.batch.now.chain) c.window.result c.window.ensures.within ∙ sym c.from.ensures in
    some_here _ _ _ _ c.in-Err.f (first_next c.args.out.now c.args.batch.now.frames _ c.frames.i c.window.ensures.frame) c.frames.invariant
    (ap (over_of c.args.out.now) size ∙ c.in-Err.ensures)
