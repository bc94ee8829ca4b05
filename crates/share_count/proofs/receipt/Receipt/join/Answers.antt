use Rattle.std.proofs.Common.{ap, sym, ◌∙◌, arith}
use Rattle.share_count.proofs.Steps.{joins, learns}
use Rattle.share_count.proofs.receipt.Receipt.join.Goals as goal

pub join_seat-requires : goal.join_seat-requires
join_seat-requires g c =
    let same = c.self.invariant.0.0 ∙ ap (λ t. t.shared.table_id) (sym c.deref.ensures) in
    let words = ap (λ t. t.words) same in let one = c.self.invariant.0.1 in
    let mine = ap (λ z. z.table) c.self.view_is in let their = c.into_seat-theirs.ensures in
    (same, their.table ∙ sym c.requires ∙ sym mine ∙ same, their.seat.0, omega (arith, words, one), joins _ _ _ _ their.seat.1.0 their.seat.1.3 their.seat.1.4)

pub load-requires : goal.load-requires
load-requires g c =
    let was = c.self.invariant.0.0 ∙ ap (λ t. t.shared.table_id) (sym c.deref-2.ensures) in
    let words = ap (λ t. t.words) was in let one = c.self.invariant.0.1 in
    (c.join_seat.ensures.0 ∙ was, omega (arith, words, one), learns _ _ _)
