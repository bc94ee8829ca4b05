use Rattle.chain_unshare.proofs.Joining.{gathers_bytes}
use Rattle.chain_unshare.proofs.laws.gather_keeps_bytes.Goals as goal

pub returns : goal.returns
returns g c = gathers_bytes
