use Rattle.frame_head.proofs.Written.{whole_laws}
use Rattle.frame_head.proofs.laws.whole_frames.Goals as goal

pub returns : goal.returns
returns c = whole_laws
