use Rattle.std.proofs.Common.{ap, sym, ◌∙◌, arith}
use Rattle.share_count.proofs.Pooling.{claim_kept, claim_taken}
use Rattle.share_count.proofs.Housing.{as_it_is}
use Rattle.share_count.proofs.unit.Unit.take_home.Goals as goal

pub claim-found-requires : goal.claim-found-requires
claim-found-requires g c =
    let z = c.self.inside in let i = c.self.invariant in let same = i.0.0 ∙ ap (λ t. t.shared.table_id) (sym c.deref.ensures) in
    let u = i.1 in let house = as_it_is z.seat.table_id z.weight z.seat.me.0 z.alloc _ _ c.take_loan-loan.ensures.loan i.2 in
    let words = ap (λ t. t.words) house.0 in let one = i.0.1 in let least = u.4 in let most = u.5 in
    (sym house.0, sym same ∙ sym house.0, omega (arith, words, one), house.1, omega (arith, least), omega (arith, most), claim_taken _ _ _ _ u.0 house.2 house.3 u.3 u.4, claim_kept _ _ _ u.0)
