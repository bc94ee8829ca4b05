use Rattle.std.proofs.Common.{refl}
use Rattle.share_count.proofs.laws.worked_history.Goals as goal

pub returns : goal.returns
returns c = (refl, refl, refl)
