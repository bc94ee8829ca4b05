use Rattle.share_count.proofs.StockLaws.{keeps_bytes}
use Rattle.share_count.proofs.laws.keeps_bytes.Goals as goal

pub returns : goal.returns
returns c = keeps_bytes
