use Rattle.frame_head.proofs.BackEndings.{delimited_read_back}
use Rattle.frame_head.proofs.laws.delimited_read_back.Goals as goal

pub returns : goal.returns
returns c = delimited_read_back
