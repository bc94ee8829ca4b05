use Rattle.buffer_model.proofs.Totals.{total-append}
use Rattle.buffer_model.proofs.laws.totals_add.Goals as goal

pub returns : goal.returns
returns g c = total-append
