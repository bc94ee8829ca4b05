use Rattle.std.proofs.Common.{◌≡◌, List, [], ◌∷◌, Ok, Some, sym, subst, ◌∙◌}
use Rattle.buffer_model.specs.Segment.{Segment, hold_of}
use Rattle.buffer_model.proofs.Clones.{clone_on_storage}
use Rattle.storage.specs.Back.{receipt_in}
use Rattle.storage.proofs.Receipts.{receipt_of_storage}
use Rattle.iobuf_chain.specs.Receipts.{AgreesWith}
use Rattle.iobuf_chain.proofs.tests.receipts.lender.Goals as goal

pub absorb-requires : goal.absorb-requires
absorb-requires g c =
    let clone = c.in_ok-clone.clone in
    let given : receipt_in c.give_back.result ≡ Some c.in-Some.receipt = sym c.receipt.ensures ∙ c.in-Some.is in
    let of = receipt_of_storage g.O.Release.runs g.O.Release.last (hold_of clone) c.give_back.result c.in-Some.receipt c.give_back.ensures.back given in
    let on = clone_on_storage c.args.mint.now c.clone_one.new.mint c.args.node c.clone_one.new.self clone c.in-Some.receipt c.in_ok-clone.ensures.clone c.requires of in
    let P : List (Segment g.row.O.Denot) → Type 0 = λ xs. AgreesWith c.in-Some.receipt xs in
    subst P (sym c.of-chain.ensures) ((λ _. on), tt)
