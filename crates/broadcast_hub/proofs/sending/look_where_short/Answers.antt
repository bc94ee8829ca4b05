use Rattle.std.proofs.Common.{ap, ◌∙◌}
use Rattle.std.proofs.lemmas.List.{set-get_or}
use Rattle.broadcast_hub.specs.Hubs.{Kept}
use Rattle.broadcast_hub.specs.Publishing.{Looks}
use Rattle.broadcast_hub.proofs.Places.{zip_of, through_step, set_same}
use Rattle.broadcast_hub.proofs.sending.look_where_short.Goals as goal

pub subs-preserved : goal.subs-preserved
subs-preserved g c = record {
  through = through_step Looks _ _ _ _ c.index-subs-i.result c.subs.invariant.through c.subs-test.true c.look.ensures.looks;
  none = λ zero_is. set_same _ _ _ c.index-subs-i.result (c.look.ensures.none zero_is) ∙ c.subs.invariant.none zero_is;
}

pub returns-clause-looks : goal.returns-clause-looks
returns-clause-looks g c = zip_of Looks _ _ _ c.subs.invariant.through c.subs-test.false
