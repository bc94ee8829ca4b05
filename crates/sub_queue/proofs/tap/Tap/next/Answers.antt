use Rattle.std.proofs.Common.{ap, rules, Some, length-append}
use Rattle.sub_queue.proofs.Lists.{taps_on}
use Rattle.sub_queue.proofs.Moves.{gets, ahead}
use Rattle.sub_queue.proofs.tap.Tap.next.Goals as goal

pub pop_as-requires-clause-rule : goal.pop_as-requires-clause-rule
pop_as-requires-clause-rule g c = let role = ap (λ v. v.taps) c.self.invariant.1.0.0 in (gets _ _ role, ahead _ _ role)

pub invariant_of-self-in-Ended : goal.invariant_of-self-in-Ended
invariant_of-self-in-Ended g c = (
  search rules,
  (
    taps_on _ _ c.in_ok-item.item c.self.inside.ended (Some c.in-Ended.end) (search rules) (search rules)
        c.self.invariant.1.0 c.in_ok-item.ensures.rule,
    search (rules, length-append),
  ),
)

pub invariant_of-self-in_default : goal.invariant_of-self-in_default
invariant_of-self-in_default g c = (
  search rules,
  (
    taps_on _ _ c.in_ok-item.item c.self.inside.ended c.self.inside.ended (search rules) (search rules)
        c.self.invariant.1.0 c.in_ok-item.ensures.rule,
    search (rules, length-append),
  ),
)
