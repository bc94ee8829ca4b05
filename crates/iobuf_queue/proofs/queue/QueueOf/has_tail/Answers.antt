use Rattle.std.proofs.Common.{◌≡◌, ◌-◌, ◌∙◌, Some, sym, arith, leb-true, le-leb}
use Rattle.std.proofs.lemmas.Bool.{false≢true}
use Rattle.iobuf_chain.specs.Tails.{last_of}
use Rattle.iobuf_queue.proofs.Queues.{last_shown, of_tail, tail_of}
use Rattle.iobuf_queue.proofs.queue.QueueOf.has_tail.Goals as goal

pub returns-then-whole : goal.returns-then-whole
returns-then-whole g c =
    let last : last_of c.args.self.now.nodes ≡ Some c.node-last.result.now
    = last_shown c.self.inside.empty c.args.self.now c.self.inside.chain c.self.inside.lent (c.elements.result - 1)
    c.node-last.result.now c.if-self.false
    c.self.view_is (omega (arith, c.elements.ensures.count, c.elements.ensures.some)) c.node-last.ensures in (
      (λ t. let most = leb-true c.args.n c.tailroom.result t in
          of_tail c.args.n _ _ last (c.whole.ensures.whole.0 c.if-whole.true, omega (arith, most, c.tailroom.ensures))),
      (λ h. let most = (tail_of c.args.n _ _ last h).1 in le-leb c.args.n c.tailroom.result (omega (
        arith,
        most,
        c.tailroom.ensures,
      ))),
    )

pub returns : goal.returns
returns g c =
    let last : last_of c.args.self.now.nodes ≡ Some c.node-last.result.now
    = last_shown c.self.inside.empty c.args.self.now c.self.inside.chain c.self.inside.lent (c.elements.result - 1)
    c.node-last.result.now c.if-self.false
    c.self.view_is (omega (arith, c.elements.ensures.count, c.elements.ensures.some)) c.node-last.ensures in (
      (λ t. absurd (false≢true t)),
      (λ h. absurd (false≢true (sym c.if-whole.false ∙ c.whole.ensures.whole.1 (tail_of c.args.n _ _ last h).0))),
    )
