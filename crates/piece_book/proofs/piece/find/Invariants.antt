-- None of the first has the number.
use Rattle.std.proofs.Common.{◌≡◌, take, None}
use Rattle.piece_book.specs.Books.{piece_of}
use Rattle.piece_book.proofs.piece.find.Given as goal

abbrev pub invariant-pieces : goal.invariant-pieces
invariant-pieces l = piece_of l.number (take l.i l.pieces) ≡ None
