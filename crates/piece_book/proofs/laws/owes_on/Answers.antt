use Rattle.piece_book.proofs.Owed.{owes_on}
use Rattle.piece_book.proofs.laws.owes_on.Goals as goal

pub returns : goal.returns
returns g c = owes_on
