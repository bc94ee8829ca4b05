use Rattle.hub_model.proofs.Steps.{serves_all}
use Rattle.hub_model.proofs.laws.serves_all.Goals as goal

pub returns : goal.returns
returns g c = serves_all
