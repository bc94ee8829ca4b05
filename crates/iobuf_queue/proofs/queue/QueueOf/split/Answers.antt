use Rattle.std.proofs.Common.{ap}
use Rattle.iobuf_chain.proofs.Rejoined.{regains_each}
use Rattle.iobuf_queue.specs.Queued.{Queued}
use Rattle.iobuf_queue.proofs.Queues.{blank_made, shown_keeps_beside}
use Rattle.iobuf_queue.proofs.queue.QueueOf.split.Goals as goal

pub returns-then-had-n-clause-refused : goal.returns-then-had-n-clause-refused
returns-then-had-n-clause-refused g c =
    regains_each _ _ (ap (λ (q : Queued g.row.O.Denot). q.nodes) c.self.view_is)

pub returns-then-self-clause-totals : goal.returns-then-self-clause-totals
returns-then-self-clause-totals g c =
    blank_made c.self.inside.empty _ _ _ c.self.inside.chain c.self.inside.chain c.of.result c.self.inside.lent _
    c.if-self.true
    c.self.view_is c.of.ensures c.in_ok-node.ensures.totals

pub returns-clause-totals : goal.returns-clause-totals
returns-clause-totals g c =
    shown_keeps_beside c.self.inside.empty _ _ _ c.self.inside.chain _ _ c.self.inside.lent c.if-self.false
    c.self.view_is
    c.split.ensures.totals
