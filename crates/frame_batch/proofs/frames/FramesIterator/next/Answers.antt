use Rattle.buffer_model.specs.Segment.{bytes_of}
use Rattle.frame_batch.proofs.InNodes.{first_frame}
use Rattle.frame_batch.proofs.InWindows.{others_in}
use Rattle.frame_batch.proofs.frames.FramesIterator.next.Goals as goal

pub invariant_of-self-2 : goal.invariant_of-self-2
invariant_of-self-2 c =
    (c.begin-spot.ensures, others_in (bytes_of c.self.inside.chain.now) c.self.inside.windows c.next.new.self _ c.in_ok-window.ensures c.self.invariant.1)

pub returns-clause-steps : goal.returns-clause-steps
returns-clause-steps c =
    first_frame c.self.inside.chain.now c.self.inside.windows c.next.new.self c.in_ok-window.window c.new.result _ c.self.view_is c.in_ok-window.ensures
    c.new.ensures.parts
