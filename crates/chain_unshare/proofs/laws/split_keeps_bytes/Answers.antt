use Rattle.chain_unshare.proofs.Splitting.{splits_join}
use Rattle.chain_unshare.proofs.laws.split_keeps_bytes.Goals as goal

pub returns : goal.returns
returns g c = splits_join
