-- The stages so far passed the frame on.
use Rattle.buffer_model.specs.Segment.{bytes_of}
use Rattle.buffer_model.specs.Minted.{NumbersOn}
use Rattle.iobuf_chain.specs.Lists.{Each}
use Rattle.pipeline.specs.Meanings.{IsCut, IsPlain}
use Rattle.pipeline.specs.Stages.{meanings}
use Rattle.pipeline.specs.Nodes.{Sheds, Works}
use Rattle.pipeline.proofs.Steps.{Passes}
use Rattle.pipeline.proofs.pipeline.read_all.Given as goal

abbrev pub invariant-stages : goal.invariant-stages
invariant-stages g l = record {
  passes : Passes (meanings g.H.Handler.machine l.fn.stages) (bytes_of l.fn.frame) l.i (meanings g.H.Handler.machine l.stages) (bytes_of l.frame);
  mint : NumbersOn l.fn.mint l.mint;
  works : Each IsPlain (meanings g.H.Handler.machine l.fn.stages) → Works l.fn.mint l.mint l.fn.frame l.frame l.fn.backs.items l.backs.items;
  sheds : Each IsCut (meanings g.H.Handler.machine l.fn.stages) → Sheds l.fn.frame l.frame;
}
