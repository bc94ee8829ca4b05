use Rattle.std.proofs.Common.{ap, length, arith}
use Rattle.frame_batch.proofs.InNodes.{next_part, no_part}
use Rattle.frame_batch.proofs.parts.PartsIterator.next.Goals as goal

pub returns-then-self-eq0-clause-steps : goal.returns-then-self-eq0-clause-steps
returns-then-self-eq0-clause-steps c =
    let none = no_part _ _ _ _ c.self.view_is c.if-self-eq0.true in (none, none)

pub returns-clause-steps : goal.returns-clause-steps
returns-clause-steps c =
    let some = c.if-self-eq0.false in
    next_part _ c.find-spot.result _ _ _ _ c.self.view_is c.find-spot.ensures.at c.find-spot.ensures.before c.find-spot.ensures.has
    (omega (arith, some)) c.min-n.ensures

pub returns-clause-goes : goal.returns-clause-goes
returns-clause-goes c =
    let l = ap length (returns-clause-steps c) in
    record { on = λ _. (tt, tt, omega (arith, l)); keeps = tt; rests = λ _. tt }
