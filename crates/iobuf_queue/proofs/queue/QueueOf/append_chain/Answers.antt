use Rattle.iobuf_queue.proofs.Queues.{joined_keeps}
use Rattle.iobuf_queue.proofs.queue.QueueOf.append_chain.Goals as goal

pub returns-clause-totals : goal.returns-clause-totals
returns-clause-totals g c =
    joined_keeps c.self.inside.empty _ c.self.inside.chain _ _ _ c.self.inside.lent c.if-self.false c.self.view_is
    c.append_chain.ensures.totals
