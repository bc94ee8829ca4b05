use Rattle.storage.proofs.Made.{made_on}
use Rattle.storage.proofs.make.hold_on.Goals as goal

pub returns-in-Ok-clause-hold : goal.returns-in-Ok-clause-hold
returns-in-Ok-clause-hold g c = made_on _ _ c.in-Ok.unit c.args.stored _ c.in-Ok.ensures.unit c.in-Ok.ensures.mint
