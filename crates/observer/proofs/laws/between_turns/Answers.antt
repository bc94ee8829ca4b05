use Rattle.observer.proofs.AllTurns.{between_turns}
use Rattle.observer.proofs.laws.between_turns.Goals as goal

pub returns : goal.returns
returns c = between_turns
