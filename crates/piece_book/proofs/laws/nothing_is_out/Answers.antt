use Rattle.piece_book.proofs.Owed.{nothing_is_out}
use Rattle.piece_book.proofs.laws.nothing_is_out.Goals as goal

pub returns : goal.returns
returns g c = nothing_is_out
