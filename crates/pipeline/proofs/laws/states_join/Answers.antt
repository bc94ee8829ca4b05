use Rattle.pipeline.proofs.Meanings.{states_join}
use Rattle.pipeline.proofs.laws.states_join.Goals as goal

pub returns : goal.returns
returns c = states_join
