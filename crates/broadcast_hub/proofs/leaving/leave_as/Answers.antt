use Rattle.std.proofs.Common.{◌≡◌}
use Rattle.broadcast_hub.specs.Leaving.{left_as}
use Rattle.broadcast_hub.proofs.Places.{zip_of, map_of, through_step, through_at, did_more}
use Rattle.broadcast_hub.proofs.leaving.leave_as.Goals as goal

pub subs-preserved : goal.subs-preserved
subs-preserved c =
    let before = c.subs.invariant.through in record {
      through = through_step (λ s t. t ≡ left_as c.args.id c.args.stop c.args.end s) _ _ _ _ c.index-subs-i.result before c.subs-test.true c.leave_as-did.ensures.leaves;
      did = did_more c.args.id _ _ _ c.index-subs-i.result _ _ c.subs.invariant.did c.leave_as-did.ensures.did
          (through_at _ _ _ _ c.index-subs-i.result before) c.subs-test.true;
    }

pub returns-clause-leaves : goal.returns-clause-leaves
returns-clause-leaves c = map_of _ _ _ (zip_of (λ s t. t ≡ left_as c.args.id c.args.stop c.args.end s) _ _ _ c.subs.invariant.through c.subs-test.false)
