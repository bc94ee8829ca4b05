use Rattle.buffer_model.proofs.Totals.{absorb_keeps}
use Rattle.buffer_model.proofs.laws.absorb_keeps_totals.Goals as goal

pub returns : goal.returns
returns g c = absorb_keeps
