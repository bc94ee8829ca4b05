use Rattle.buffer_model.proofs.Totals.{share_keeps}
use Rattle.buffer_model.proofs.laws.share_keeps_totals.Goals as goal

pub returns : goal.returns
returns g c = share_keeps
