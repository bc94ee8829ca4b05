use Rattle.frame_head.proofs.FirstEnding.{first_ending}
use Rattle.frame_head.proofs.laws.first_endings.Goals as goal

pub returns : goal.returns
returns c = first_ending
