use Rattle.observer.proofs.AllTurns.{after_all_turns}
use Rattle.observer.proofs.laws.after_all_turns.Goals as goal

pub returns : goal.returns
returns c = after_all_turns
