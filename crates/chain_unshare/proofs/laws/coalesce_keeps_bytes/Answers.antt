use Rattle.chain_unshare.proofs.Joining.{coalesces_bytes}
use Rattle.chain_unshare.proofs.laws.coalesce_keeps_bytes.Goals as goal

pub returns : goal.returns
returns g c = coalesces_bytes
