use Rattle.std.proofs.Common.{ap, sym, ◌∙◌, arith}
use Rattle.share_count.proofs.Steps.{cuts}
use Rattle.share_count.proofs.Housing.{lent_parts}
use Rattle.share_count.proofs.unit.Unit.cut.Goals as goal

pub split_seat-seat-requires : goal.split_seat-seat-requires
split_seat-seat-requires g c =
    let z = c.self.inside in let i = c.self.invariant in let same = i.0.0 ∙ ap (λ t. t.shared.table_id) (sym c.deref.ensures) in
    let words = ap (λ t. t.words) same in let one = i.0.1 in let live = i.1.0 in let weight = ap (λ u. u.weight) c.self.view_is in let more = c.requires.more in
    let parts = lent_parts z.seat.table_id z.weight z.seat.me.0 z.alloc _ (ap (λ u. u.alone) c.self.view_is ∙ c.requires.lent) i.2 in
    (same, omega (arith, words, one), cuts _ _ (omega (arith, live, weight, more)) (parts ∙ sym live))
