use Rattle.relay_model.proofs.Beginning.{begin_stands}
use Rattle.relay_model.proofs.laws.begin_stands.Goals as goal

pub returns : goal.returns
returns g c = begin_stands
