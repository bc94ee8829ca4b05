use Rattle.std.proofs.Common.{rules, arith, ◌≤◌, length}
use Rattle.sub_queue.proofs.Moves.{spares, merges, forks, wholes}
use Rattle.sub_queue.proofs.Lists.{ended_all}
use Rattle.sub_queue.proofs.Sizes.{weight_later}
use Rattle.sub_queue.proofs.laws.meet.Goals as goal

pub another-spare-requires-clause-rule : goal.another-spare-requires-clause-rule
another-spare-requires-clause-rule g c = spares _ _

pub absorb-requires-clause-rule : goal.absorb-requires-clause-rule
absorb-requires-clause-rule g c = merges _ _ _ _ (search rules) (search rules)

pub learn_as-requires-clause-rule : goal.learn_as-requires-clause-rule
learn_as-requires-clause-rule g c = wholes _ _ (search rules) (search rules)

pub another-requires-clause-rule : goal.another-requires-clause-rule
another-requires-clause-rule g c = forks _ _ (search rules) (search rules)

pub returns-clause-held : goal.returns-clause-held
returns-clause-held g c = let le : c.args.feed.now.known ≤ length c.args.tap.now.taken = search rules in
    let e = weight_later g.T.Measured.measure _ _ c.args.feed.now.sent le in search (rules, e)

pub returns-clause-ended : goal.returns-clause-ended
returns-clause-ended g c = let r = c.learn_as.ensures.rule in
    ended_all c.args.tap.now.taken r.0 c.args.feed.now.sent (search (rules, r.1.0)) (search (rules, c.feed.invariant.1.0.1))
