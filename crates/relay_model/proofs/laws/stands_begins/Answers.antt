use Rattle.relay_model.proofs.Telling.{stands_begins}
use Rattle.relay_model.proofs.laws.stands_begins.Goals as goal

pub returns : goal.returns
returns g c = stands_begins
