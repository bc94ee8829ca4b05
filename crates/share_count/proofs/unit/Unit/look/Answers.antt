use Rattle.std.proofs.Common.{ap, sym, ◌∙◌, arith}
use Rattle.share_count.proofs.Steps.{looks}
use Rattle.share_count.proofs.unit.Unit.look.Goals as goal

pub load-found-requires : goal.load-found-requires
load-found-requires g c =
    let same = c.self.invariant.0.0 ∙ ap (λ t. t.shared.table_id) (sym c.deref.ensures) in
    let words = ap (λ t. t.words) same in let one = c.self.invariant.0.1 in
    (same, omega (arith, words, one), looks _ _ _)
