use Rattle.std.proofs.Common.{◌∙◌, ◌≡◌, ℕ, sym, ap, subst, List, Some, slice_set, slice_index_or, arith}
use Rattle.std.specs.Prelude.{IfSome}
use Rattle.piece_book.specs.Books.{Noted, noted, StandsAt, joined_with, lasts_of}
use Rattle.piece_book.proofs.Places.{suits_at, receipt_at, lasts_at}
use Rattle.piece_book.proofs.book.PieceBook.add.Goals as goal

pub join-requires : goal.join-requires
join-requires c =
    let P : List Noted → Type 0 = λ ps. StandsAt c.args.receipt.number c.in-Some.i ps in
    let N : ℕ → Type 0 = λ n. StandsAt n c.in-Some.i c.deref.result.now in
    let at = subst P (c.deref.ensures.value ∙ c.self.view_is) (subst N c.number.ensures c.in-Some.ensures) in
    let item = c.index_mut.ensures.value ∙ ap (λ ps. slice_index_or ps c.in-Some.i c.index_mut.result.now) c.self.view_is in
    let Q : Noted → Type 0 = λ p. IfSome p.joined (λ t. t.table ≡ c.args.receipt.table) in
    subst Q (sym item) (suits_at c.args.receipt c.in-Some.i _ c.index_mut.result.now at c.requires.suits)

pub returns-clause-joined : goal.returns-clause-joined
returns-clause-joined c =
    let P : List Noted → Type 0 = λ ps. StandsAt c.args.receipt.number c.in-Some.i ps in
    let N : ℕ → Type 0 = λ n. StandsAt n c.in-Some.i c.deref.result.now in
    let at = subst P (c.deref.ensures.value ∙ c.self.view_is) (subst N c.number.ensures c.in-Some.ensures) in
    let item = c.index_mut.ensures.value ∙ ap (λ ps. slice_index_or ps c.in-Some.i c.index_mut.result.now) c.self.view_is in
    ap (λ ps. slice_set ps c.in-Some.i c.join.new.self) c.self.view_is
    ∙ receipt_at c.args.receipt c.in-Some.i _ c.join.new.self c.index_mut.result.now at
    (c.join.ensures.joined ∙ ap (λ (p : Noted). noted p.number (Some (joined_with c.args.receipt p.joined))) item)

pub returns-clause-most : goal.returns-clause-most
returns-clause-most c =
    let P : List Noted → Type 0 = λ ps. StandsAt c.args.receipt.number c.in-Some.i ps in
    let N : ℕ → Type 0 = λ n. StandsAt n c.in-Some.i c.deref.result.now in
    let at = subst P (c.deref.ensures.value ∙ c.self.view_is) (subst N c.number.ensures c.in-Some.ensures) in
    let item = c.index_mut.ensures.value ∙ ap (λ ps. slice_index_or ps c.in-Some.i c.index_mut.result.now) c.self.view_is in
    let same = lasts_at c.args.receipt.number c.in-Some.i _ c.index_mut.result.now at ∙ ap (λ (p : Noted). lasts_of p.joined) (sym item) in
    let most = c.join.ensures.most in
    omega (arith, same, most)
