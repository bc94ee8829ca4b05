use Rattle.buffer_model.proofs.Windows.{trims_twice}
use Rattle.buffer_model.proofs.laws.trims_compose.Goals as goal

pub returns : goal.returns
returns g c = trims_twice
