use Rattle.std.proofs.Common.{arith}
use Rattle.iobuf_queue.proofs.Queues.{same_ok}
use Rattle.iobuf_queue.proofs.queue.QueueOf.split_at_most.Goals as goal

pub returns-in-Ok-clause-all : goal.returns-in-Ok-clause-all
returns-in-Ok-clause-all g c some most =
    let all = c.in-Ok.ensures.all some (omega (arith, c.min-most.ensures, c.chain_length.ensures, most)) in
    (same_ok _ _ all.0, all.1, all.2)
