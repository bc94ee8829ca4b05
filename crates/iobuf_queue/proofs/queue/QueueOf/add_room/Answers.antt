use Rattle.std.proofs.Common.{◌∙◌, ap, sym, arith}
use Rattle.std.proofs.lemmas.Bool.{false≢true}
use Rattle.iobuf_queue.specs.Queued.{Queued}
use Rattle.iobuf_queue.proofs.Queues.{added_on, added_keeps}
use Rattle.iobuf_queue.proofs.queue.QueueOf.add_room.Goals as goal

pub invariant_of-self-3 : goal.invariant_of-self-3
invariant_of-self-3 g c =
    let on = added_on c.self-2.inside.empty c.self-2.inside.chain _ c.of.result c.in_ok-node.node
    c.self-2.inside.lent c.min-lent.result c.args.size _
    c.self-2.view_is c.in-Ok.ensures.joined c.of.ensures c.in_ok-node.ensures.node c.in_ok-node.ensures.storage.alone
    (omega (arith, c.min-lent.ensures)) in
    ((λ e. absurd (false≢true (sym on.0 ∙ e))), on.1, c.self-2.invariant.2)

pub returns-clause-totals : goal.returns-clause-totals
returns-clause-totals g c =
    added_keeps _ _ c.args.self.now _ _ c.of.result c.in_ok-node.node (ap (λ (q : Queued g.row.O.Denot). q.nodes)
    c.self.view_is)
    c.of.ensures (ap (λ (q : Queued g.row.O.Denot). q.nodes) (c.self-2.view_is
    ∙ c.in-Ok.ensures.joined)) c.in_ok-node.ensures.totals
