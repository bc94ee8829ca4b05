use Rattle.std.proofs.Common.{refl}
use Rattle.relay_model.proofs.laws.worked_turns.Goals as goal

pub returns : goal.returns
returns c = record { part = refl; narrow = refl; waits = refl; odd = refl; behind = refl; keeps_up = refl }
