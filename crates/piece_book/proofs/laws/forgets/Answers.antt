use Rattle.piece_book.proofs.Lending.{forgets}
use Rattle.piece_book.proofs.laws.forgets.Goals as goal

pub returns : goal.returns
returns g c = forgets
