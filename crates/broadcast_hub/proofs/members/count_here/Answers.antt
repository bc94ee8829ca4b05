use Rattle.std.proofs.Common.{sym, ap, ◌∙◌, arith}
use Rattle.broadcast_hub.specs.Hubs.{is_here}
use Rattle.broadcast_hub.proofs.Places.{how_many_one, how_many_same}
use Rattle.broadcast_hub.proofs.members.count_here.Goals.{then-is_here, else-is_here}
use Rattle.broadcast_hub.proofs.members.count_here.Goals as goal

pub subs-preserved : goal.subs-preserved
subs-preserved c =
    let stands = ap (λ s. is_here s.standing) (sym c.sub-item.is) ∙ sym c.is_here.ensures in
    let most = c.subs.invariant.most in
    elim c.if-is_here.branch [
      | then-is_here w ↦
          let one = w.count-is in record {
            count = w.count-is ∙ how_many_one is_here _ _ _ c.sub-item.result c.subs.invariant.count c.subs-test.true (stands ∙ w.if-is_here.true);
            most = omega (arith, most, one);
          }
      | else-is_here w ↦
          let same = w.count-is in record {
            count = w.count-is ∙ how_many_same is_here _ _ _ c.sub-item.result c.subs.invariant.count c.subs-test.true (stands ∙ w.if-is_here.false);
            most = omega (arith, most, same);
          }
    ]
