use Rattle.share_count.proofs.StockLaws.{stays_right}
use Rattle.share_count.proofs.laws.stays_right.Goals as goal

pub returns : goal.returns
returns c = stays_right
