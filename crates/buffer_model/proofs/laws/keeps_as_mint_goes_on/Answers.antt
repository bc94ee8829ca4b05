use Rattle.buffer_model.proofs.Totals.{keeps_beside_then}
use Rattle.buffer_model.proofs.laws.keeps_as_mint_goes_on.Goals as goal

pub returns : goal.returns
returns g c = keeps_beside_then
