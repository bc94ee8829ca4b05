use Rattle.buffer_model.proofs.Totals.{keeps-append}
use Rattle.buffer_model.proofs.laws.keeps_beside_keeps.Goals as goal

pub returns : goal.returns
returns g c = keeps-append
