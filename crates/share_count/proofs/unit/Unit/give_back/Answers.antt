use Rattle.std.proofs.Common.{ap, sym, ◌∙◌, arith}
use Rattle.share_count.proofs.Steps.{ends}
use Rattle.share_count.proofs.Pooling.{leaves}
use Rattle.share_count.proofs.Housing.{as_it_is}
use Rattle.share_count.proofs.unit.Unit.give_back.Goals as goal

pub fetch_sub-requires : goal.fetch_sub-requires
fetch_sub-requires g c =
    let z = c.self.inside in let i = c.self.invariant in let same = i.0.0 ∙ ap (λ t. t.shared.table_id) (sym c.deref.ensures) in
    let words = ap (λ t. t.words) same in let one = i.0.1 in let u = i.1 in let house = as_it_is z.seat.table_id z.weight z.seat.me.0 z.alloc _ _ c.in-Own.is i.2 in
    (same, omega (arith, words, one), ends _ _ _ _ u.0 u.4 house.0 u.3)

pub leave-found-requires : goal.leave-found-requires
leave-found-requires g c =
    let z = c.self.inside in let i = c.self.invariant in let same = i.0.0 ∙ ap (λ t. t.shared.table_id) (sym c.deref-in-Lent.ensures) in
    let u = i.1 in let house = as_it_is z.seat.table_id z.weight z.seat.me.0 z.alloc _ _ c.in-Lent.is i.2 in
    let words = ap (λ t. t.words) house.0 in let one = i.0.1 in let least = u.4 in
    (sym house.0, sym same ∙ sym house.0, omega (arith, words, one), house.1, omega (arith, least), leaves _ _ _ _ u.0 house.2 house.3 u.3 u.4)
