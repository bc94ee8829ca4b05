use Rattle.pipeline.proofs.Meanings.{answers_join}
use Rattle.pipeline.proofs.laws.answers_join.Goals as goal

pub returns : goal.returns
returns c = answers_join
