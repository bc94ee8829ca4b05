use Rattle.buffer_model.proofs.Totals.{keeps_all}
use Rattle.buffer_model.proofs.laws.nothing_numbered_keeps_all.Goals as goal

pub returns : goal.returns
returns g c = keeps_all
