use Rattle.frame_head.proofs.Cases.{passed_steady}
use Rattle.frame_head.proofs.Cutting.{extends}
use Rattle.frame_head.proofs.laws.stable_units.Goals as goal

pub returns : goal.returns
returns c = λ codec checked s r. ((passed_steady codec checked).stable s r, extends codec (passed_steady codec checked) s r)
