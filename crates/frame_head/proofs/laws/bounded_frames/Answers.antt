use Rattle.frame_head.proofs.Bounds.{bounded_frames}
use Rattle.frame_head.proofs.laws.bounded_frames.Goals as goal

pub returns : goal.returns
returns c = λ codec s checked bytes. bounded_frames codec s bytes
