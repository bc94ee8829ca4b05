use Rattle.hub_laws.proofs.Leaving.{new_stands}
use Rattle.hub_laws.proofs.laws.new_stands.Goals as goal

pub returns : goal.returns
returns c = new_stands
