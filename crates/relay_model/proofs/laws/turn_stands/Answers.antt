use Rattle.relay_model.proofs.Turning.{turn_stands}
use Rattle.relay_model.proofs.laws.turn_stands.Goals as goal

pub returns : goal.returns
returns g c = turn_stands
