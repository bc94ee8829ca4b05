use Rattle.std.proofs.Common.{ap, ◌∙◌, arith}
use Rattle.observer.specs.Drains.{Drain}
use Rattle.observer.proofs.Turning.{batches_within, turned_from}
use Rattle.observer.proofs.drainer.Drainer.turn.Goals as goal

pub give_all_back-requires-clause-room : goal.give_all_back-requires-clause-room
give_all_back-requires-clause-room g c =
    let within = batches_within c.take_batches-turn.ensures.takes in
    let cap = ap (λ (d : Drain). d.cap) c.self.view_is in
    omega (arith, within, cap, c.requires.most, c.self.invariant.3)

pub returns : goal.returns
returns g c =
    let count = c.count_turn-self-inside.ensures in
    turned_from c.args.self.now c.args.upto c.self.inside.held.tap c.take_batches-turn.new.tap c.self.inside.flow c.mark.new.self c.take_batches-turn.new.flow c.flush.new.self c.self.inside.held.cap
    c.self.inside.held.returns.items c.give_all_back.new.returns.items c.self.inside.held.count c.count_turn-self-inside.result c.take_batches-turn.new.batches.items c.take_batches-turn.result
    c.self.view_is c.mark.ensures c.take_batches-turn.ensures.takes c.tap_knows.ensures.agree c.tap_knows.ensures.last c.flush.ensures.prints c.flush.ensures.empty
    (λ was. count.stopped (c.failed-failed.ensures ∙ was)) (λ was is. count.all (c.failed-failed.ensures ∙ was) is) (λ was is. count.first (c.failed-failed.ensures ∙ was) is)
    count.counts c.give_all_back.ensures.given
