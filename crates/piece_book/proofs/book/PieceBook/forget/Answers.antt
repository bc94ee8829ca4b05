use Rattle.std.proofs.Common.{◌∙◌, ap, subst, List, take, drop, ◌+◌, ◌++◌}
use Rattle.piece_book.specs.Books.{Noted, StandsAt}
use Rattle.piece_book.proofs.Places.{gone_at}
use Rattle.piece_book.proofs.book.PieceBook.forget.Goals as goal

pub returns : goal.returns
returns c =
    let P : List Noted → Type 0 = λ ps. StandsAt c.args.number c.in-Some.i ps in
    let at = subst P (c.deref.ensures.value ∙ c.self.view_is) c.in-Some.ensures in
    gone_at c.args.number c.in-Some.i _ _ at
    (c.remove-settled.ensures.by_index.2 ∙ ap (λ ps. take c.in-Some.i ps ++ drop (c.in-Some.i + 1) ps) c.self.view_is)
