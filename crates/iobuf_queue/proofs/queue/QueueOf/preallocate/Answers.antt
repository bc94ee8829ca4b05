use Rattle.std.proofs.Common.{◌∙◌, sym, arith}
use Rattle.std.proofs.lemmas.Bool.{false≢true}
use Rattle.iobuf_queue.proofs.Queues.{tail_shown, claimed_offer, shown_keeps}
use Rattle.iobuf_queue.proofs.queue.QueueOf.preallocate.Goals as goal

pub invariant_of-self : goal.invariant_of-self
invariant_of-self g c =
    let there = tail_shown c.self.inside.empty c.args.self.now c.self.inside.chain c.self.inside.lent c.args.least
    c.self.view_is
    (c.has_tail.ensures.0 c.if-has_tail.true) in (
      (λ e. absurd (false≢true (sym there.0 ∙ e))),
      claimed_offer c.self.inside.chain _ c.min-lent.result c.claim_last-room.ensures.nodes (omega (
        arith,
        c.min-lent.ensures,
        c.claim_last-room.ensures.room,
      )),
      c.self.invariant.2,
    )

pub returns-then-has_tail-clause-totals : goal.returns-then-has_tail-clause-totals
returns-then-has_tail-clause-totals g c = λ z h.
    let there = tail_shown c.self.inside.empty c.args.self.now c.self.inside.chain c.self.inside.lent c.args.least
    c.self.view_is
    (c.has_tail.ensures.0 c.if-has_tail.true) in
    shown_keeps c.self.inside.empty _ c.self.inside.chain _ c.self.inside.lent there.0 c.self.view_is
    c.claim_last-room.ensures.totals z
