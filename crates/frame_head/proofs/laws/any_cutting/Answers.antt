use Rattle.frame_head.proofs.Cases.{passed_steady}
use Rattle.frame_head.proofs.Cutting.{any_cutting}
use Rattle.frame_head.proofs.laws.any_cutting.Goals as goal

pub returns : goal.returns
returns c = λ codec checked pieces. any_cutting codec (passed_steady codec checked) pieces
