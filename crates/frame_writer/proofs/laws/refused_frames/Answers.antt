use Rattle.frame_writer.proofs.Refused.{refused_frames}
use Rattle.frame_writer.proofs.laws.refused_frames.Goals as goal

pub returns : goal.returns
returns c = refused_frames
