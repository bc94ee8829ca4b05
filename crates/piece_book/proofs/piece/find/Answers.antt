use Rattle.std.proofs.Common.{sym, ap, ◌∙◌}
use Rattle.piece_book.specs.Books.{Noted}
use Rattle.piece_book.proofs.Places.{none_more, eq_no, stands_at}
use Rattle.piece_book.proofs.piece.find.Goals as goal

pub returns-then-number : goal.returns-then-number
returns-then-number c = stands_at _ _ _ c.index-pieces-i.result c.pieces.invariant c.pieces-test.true
    (ap (λ (s : Noted). s.number) (sym c.index-pieces-i.is) ∙ sym c.number.ensures ∙ c.if-number.true)

pub pieces-preserved : goal.pieces-preserved
pieces-preserved c = none_more _ _ _ c.index-pieces-i.result c.pieces.invariant c.pieces-test.true
    (eq_no _ _ (λ is. c.if-number.false (c.number.ensures ∙ ap (λ (s : Noted). s.number) c.index-pieces-i.is ∙ is)))
