use Rattle.buffer_model.proofs.Minted.{new_stays}
use Rattle.buffer_model.proofs.laws.new_stays_new.Goals as goal

pub returns : goal.returns
returns g c = new_stays
