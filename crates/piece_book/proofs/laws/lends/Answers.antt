use Rattle.piece_book.proofs.Lending.{lends}
use Rattle.piece_book.proofs.laws.lends.Goals as goal

pub returns : goal.returns
returns g c = lends
