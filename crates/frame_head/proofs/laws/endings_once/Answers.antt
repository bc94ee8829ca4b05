use Rattle.frame_head.proofs.BackEndings.{endings_once}
use Rattle.frame_head.proofs.laws.endings_once.Goals as goal

pub returns : goal.returns
returns c = endings_once
