use Rattle.buffer_model.proofs.Clones.{clone_keeps_totals}
use Rattle.buffer_model.proofs.laws.clone_keeps_totals.Goals as goal

pub returns : goal.returns
returns g c = clone_keeps_totals
