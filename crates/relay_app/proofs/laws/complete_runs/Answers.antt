use Rattle.relay_app.proofs.Complete.{complete}
use Rattle.relay_app.proofs.laws.complete_runs.Goals as goal

pub returns : goal.returns
returns c = complete
