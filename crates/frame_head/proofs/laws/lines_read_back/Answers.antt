use Rattle.frame_head.proofs.BackEndings.{lines_read_back}
use Rattle.frame_head.proofs.laws.lines_read_back.Goals as goal

pub returns : goal.returns
returns c = lines_read_back
