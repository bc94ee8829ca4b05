use Rattle.observer.proofs.AllTurns.{turns_join}
use Rattle.observer.proofs.laws.turns_join.Goals as goal

pub returns : goal.returns
returns c = turns_join
