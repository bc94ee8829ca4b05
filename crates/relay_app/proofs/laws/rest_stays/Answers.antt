use Rattle.relay_app.proofs.Complete.{rest_stays}
use Rattle.relay_app.proofs.laws.rest_stays.Goals as goal

pub returns : goal.returns
returns c = rest_stays
