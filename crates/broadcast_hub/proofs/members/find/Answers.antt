use Rattle.std.proofs.Common.{sym, ap, ◌∙◌, arith, length-take-le, take-append-drop, take, drop, ◌+◌, ◌≤◌}
use Rattle.std.proofs.lemmas.List.{drop_more}
use Rattle.broadcast_hub.proofs.Places.{feed_of_more, id_other, stands_at}
use Rattle.broadcast_hub.proofs.members.find.Goals as goal

pub returns-then-id : goal.returns-then-id
returns-then-id c = stands_at _ _ _ c.index-subs-i.result c.subs.invariant c.subs-test.true (ap (λ s. s.id) (sym c.index-subs-i.is) ∙ sym c.id.ensures ∙ c.if-id.true)

pub subs-preserved : goal.subs-preserved
subs-preserved c = feed_of_more _ _ _ c.index-subs-i.result c.subs.invariant c.subs-test.true
    (id_other _ _ (λ is. c.if-id.false (c.id.ensures ∙ ap (λ s. s.id) c.index-subs-i.is ∙ is)))
