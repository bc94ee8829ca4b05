use Rattle.buffer_model.proofs.Minted.{one_mint}
use Rattle.buffer_model.proofs.laws.one_mint_one_storage.Goals as goal

pub returns : goal.returns
returns g c = one_mint
