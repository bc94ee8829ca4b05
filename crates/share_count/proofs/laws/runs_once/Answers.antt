use Rattle.share_count.proofs.StockLaws.{runs_once}
use Rattle.share_count.proofs.laws.runs_once.Goals as goal

pub returns : goal.returns
returns c = runs_once
