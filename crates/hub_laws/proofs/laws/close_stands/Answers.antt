use Rattle.hub_laws.proofs.Leaving.{close_stands}
use Rattle.hub_laws.proofs.laws.close_stands.Goals as goal

pub returns : goal.returns
returns c = close_stands
