use Rattle.iobuf_chain.proofs.Absorbed.{one_mint_agrees}
use Rattle.iobuf_chain.proofs.laws.one_mint_agrees.Goals as goal

pub returns : goal.returns
returns g c = one_mint_agrees
