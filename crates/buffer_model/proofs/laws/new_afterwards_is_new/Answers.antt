use Rattle.buffer_model.proofs.Minted.{new_afterwards}
use Rattle.buffer_model.proofs.laws.new_afterwards_is_new.Goals as goal

pub returns : goal.returns
returns g c = new_afterwards
