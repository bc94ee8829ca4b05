use Rattle.std.proofs.Common.{ap, sym, ◌∙◌, arith}
use Rattle.share_count.proofs.Pooling.{lends}
use Rattle.share_count.proofs.Housing.{as_it_is}
use Rattle.share_count.proofs.unit.Unit.lend.Goals as goal

pub lend-loan-requires : goal.lend-loan-requires
lend-loan-requires g c =
    let z = c.self.inside in let i = c.self.invariant in let same = i.0.0 ∙ ap (λ t. t.shared.table_id) (sym c.deref.ensures) in
    let words = ap (λ t. t.words) same in let one = i.0.1 in let u = i.1 in let least = u.4 in let most = u.5 in
    let house = as_it_is z.seat.table_id z.weight z.seat.me.0 z.alloc _ _ (sym c.in-Own.ensures.home) i.2 in let frozen = c.freeze-deed.ensures in
    (same, omega (arith, words, one), omega (arith, least), omega (arith, most), frozen.0, frozen.3 ∙ sym frozen.2, frozen.4, frozen.5, lends _ _ _ house.0 u.0 u.4)
