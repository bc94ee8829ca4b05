use Rattle.frame_head.proofs.BackLengths.{lengths_read_back}
use Rattle.frame_head.proofs.laws.lengths_read_back.Goals as goal

pub returns : goal.returns
returns c = lengths_read_back
