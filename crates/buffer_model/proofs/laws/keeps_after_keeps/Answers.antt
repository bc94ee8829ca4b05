use Rattle.buffer_model.proofs.Totals.{keeps_then}
use Rattle.buffer_model.proofs.laws.keeps_after_keeps.Goals as goal

pub returns : goal.returns
returns g c = keeps_then
