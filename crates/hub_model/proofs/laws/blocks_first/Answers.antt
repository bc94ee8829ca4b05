use Rattle.hub_model.proofs.Blocking.{blocks_first}
use Rattle.hub_model.proofs.laws.blocks_first.Goals as goal

pub returns : goal.returns
returns g c = blocks_first
