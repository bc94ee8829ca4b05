use Rattle.iobuf_chain.proofs.Copied.{shares_in_turn}
use Rattle.iobuf_chain.proofs.laws.shares_in_turn.Goals as goal

pub returns : goal.returns
returns c = shares_in_turn
