use Rattle.std.proofs.Common.{◌∙◌, ◌==◌, sym, ap, subst, List, slice_index_or}
use Rattle.share_count.specs.Weights.{full}
use Rattle.piece_book.specs.Books.{Noted, StandsAt, weight_of, lasts_of}
use Rattle.piece_book.proofs.Places.{settled_at, lasts_at}
use Rattle.piece_book.proofs.book.PieceBook.settled.Goals as goal

pub returns-clause-full : goal.returns-clause-full
returns-clause-full c =
    let P : List Noted → Type 0 = λ ps. StandsAt c.args.number c.in-Some.i ps in
    let at = subst P (c.deref.ensures.value ∙ c.self.view_is) c.in-Some.ensures in
    let item = c.index.ensures ∙ ap (λ ps. slice_index_or ps c.in-Some.i c.index.result.now) c.self.view_is in
    c.is_settled.ensures.full ∙ ap (λ (p : Noted). weight_of p.joined == full) item ∙ settled_at c.args.number c.in-Some.i _ c.index.result.now at

pub returns-clause-last : goal.returns-clause-last
returns-clause-last c = λ is.
    let P : List Noted → Type 0 = λ ps. StandsAt c.args.number c.in-Some.i ps in
    let at = subst P (c.deref.ensures.value ∙ c.self.view_is) c.in-Some.ensures in
    let item = c.index.ensures ∙ ap (λ ps. slice_index_or ps c.in-Some.i c.index.result.now) c.self.view_is in
    lasts_at c.args.number c.in-Some.i _ c.index.result.now at ∙ ap (λ (p : Noted). lasts_of p.joined) (sym item) ∙ c.is_settled.ensures.last is
