use Rattle.std.proofs.Common.{◌≡◌, ap, arith}
use Rattle.iobuf_queue.specs.Queued.{Queued}
use Rattle.iobuf_queue.proofs.Queues.{offer_room, shown_keeps}
use Rattle.iobuf_queue.proofs.queue.QueueOf.postallocate.Goals as goal

pub take_in-requires-clause-room : goal.take_in-requires-clause-room
take_in-requires-clause-room g c =
    let lent : c.self.inside.lent ≡ c.args.self.now.lent = ap (λ (q : Queued g.row.O.Denot). q.lent) c.self.view_is in
    offer_room c.self.inside.chain c.self.inside.lent c.args.n c.self.invariant.1
    (omega (arith, c.elements-some.ensures.count, c.elements-some.ensures.some)) (omega (
      arith,
      lent,
      c.requires.offered,
    ))

pub returns-clause-totals : goal.returns-clause-totals
returns-clause-totals g c =
    shown_keeps c.self.inside.empty _ c.self.inside.chain _ c.self.inside.lent c.if-self.false c.self.view_is
    c.take_in.ensures.totals
