use Rattle.share_count.proofs.StockLaws.{sole_is_alone}
use Rattle.share_count.proofs.laws.sole_is_alone.Goals as goal

pub returns : goal.returns
returns c = sole_is_alone
