-- So many frames went through.
use Rattle.buffer_model.specs.Segment.{bytes_of}
use Rattle.pipeline.specs.Stages.{meanings}
use Rattle.pipeline.proofs.Placing.{Placing}
use Rattle.pipeline.proofs.windows.place_all.Given as goal

abbrev pub invariant-frames : goal.invariant-frames
invariant-frames g l = Placing (meanings g.H.Handler.machine l.stages) (bytes_of l.batch.chain) l.batch.frames l.i l.windows.items
