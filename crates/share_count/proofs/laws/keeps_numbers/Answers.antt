use Rattle.share_count.proofs.Shelves.{find_old}
use Rattle.share_count.proofs.laws.keeps_numbers.Goals as goal

pub returns : goal.returns
returns c = λ mint more n t at. find_old mint n t more at
