use Rattle.std.proofs.Common.{◌∙◌, subst, List}
use Rattle.piece_book.specs.Books.{Noted, IsAt}
use Rattle.piece_book.proofs.Places.{knows_at}
use Rattle.piece_book.proofs.book.PieceBook.knows.Goals as goal

pub returns : goal.returns
returns c =
    let P : List Noted → Type 0 = λ ps. IsAt c.args.number ps c.find.result in
    c.is_some.ensures ∙ knows_at c.args.number _ c.find.result (subst P (c.deref.ensures.value ∙ c.self.view_is) c.find.ensures)
