use Rattle.std.proofs.Common.{refl}
use Rattle.hub_model.proofs.laws.worked_events.Goals as goal

pub returns : goal.returns
returns c = record { fresh = refl; blocked = refl; ended = refl }
