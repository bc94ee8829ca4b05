use Rattle.relay_model.proofs.Telling.{over_tells}
use Rattle.relay_model.proofs.laws.over_tells.Goals as goal

pub returns : goal.returns
returns g c = over_tells
