use Rattle.std.proofs.Common.{Some}
use Rattle.share_count.proofs.Shelves.{find_new}
use Rattle.share_count.proofs.laws.numbers_new.Goals as goal

pub returns : goal.returns
returns c = λ mint t. find_new mint (Some t)
