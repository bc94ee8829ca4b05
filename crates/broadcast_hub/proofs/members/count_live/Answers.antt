use Rattle.std.proofs.Common.{sym, ap, ◌∙◌, arith}
use Rattle.broadcast_hub.specs.Hubs.{is_live}
use Rattle.broadcast_hub.proofs.Places.{how_many_one, how_many_same}
use Rattle.broadcast_hub.proofs.members.count_live.Goals.{then-is_live, else-is_live}
use Rattle.broadcast_hub.proofs.members.count_live.Goals as goal

pub subs-preserved : goal.subs-preserved
subs-preserved c =
    let stands = ap (λ s. is_live s.standing) (sym c.sub-item.is) ∙ sym c.is_live.ensures in
    let most = c.subs.invariant.most in
    elim c.if-is_live.branch [
      | then-is_live w ↦
          let one = w.count-is in record {
            count = w.count-is ∙ how_many_one is_live _ _ _ c.sub-item.result c.subs.invariant.count c.subs-test.true (stands ∙ w.if-is_live.true);
            most = omega (arith, most, one);
          }
      | else-is_live w ↦
          let same = w.count-is in record {
            count = w.count-is ∙ how_many_same is_live _ _ _ c.sub-item.result c.subs.invariant.count c.subs-test.true (stands ∙ w.if-is_live.false);
            most = omega (arith, most, same);
          }
    ]
