use Rattle.std.proofs.Common.{sym, ap, ◌∙◌, arith}
use Rattle.broadcast_hub.specs.Hubs.{is_leaving}
use Rattle.broadcast_hub.specs.Leaving.{Flushes}
use Rattle.broadcast_hub.proofs.Places.{zip_of, through_step, how_many_one_set, how_many_same_set}
use Rattle.broadcast_hub.proofs.leaving.flush_all.Goals.{then-flush, else-flush}
use Rattle.broadcast_hub.proofs.leaving.flush_all.Goals as goal

pub subs-preserved : goal.subs-preserved
subs-preserved g c =
    let before = c.subs.invariant.through in
    let size = before.places in
    let there = c.subs-test.true in
    let most = c.subs.invariant.most in
    let through = through_step Flushes _ _ _ _ c.index-subs-i.result before there c.flush.ensures.flushes in
    elim c.if-flush.branch [
      | then-flush w ↦
          let one = w.waits-is in record {
            through = through;
            waits = one ∙ how_many_one_set is_leaving _ _ _ _ c.subs.invariant.waits (omega (arith, size, there)) (sym c.flush.ensures.waits ∙ w.if-flush.true);
            most = omega (arith, most, one);
          }
      | else-flush w ↦
          let same = w.waits-is in record {
            through = through;
            waits = same ∙ how_many_same_set is_leaving _ _ _ _ c.subs.invariant.waits (omega (arith, size, there)) (sym c.flush.ensures.waits ∙ w.if-flush.false);
            most = omega (arith, most, same);
          }
    ]

pub returns-clause-flushes : goal.returns-clause-flushes
returns-clause-flushes g c = zip_of Flushes _ _ _ c.subs.invariant.through c.subs-test.false
