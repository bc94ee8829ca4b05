use Rattle.std.proofs.Common.{arith}
use Rattle.frame_batch.proofs.InNodes.{more_parts, none_is_one, only_part}
use Rattle.frame_batch.proofs.parts.Parts.in_one.Goals as goal

pub returns-then-self-eq0 : goal.returns-then-self-eq0
returns-then-self-eq0 c = none_is_one _ _ _ _ c.self.view_is c.if-self-eq0.true

pub returns-then-self-spot : goal.returns-then-self-spot
returns-then-self-spot c =
    more_parts _ c.find-spot.result _ _ _ c.self.view_is c.find-spot.ensures.at c.find-spot.ensures.before c.find-spot.ensures.has c.self.invariant.1
    c.if-self-spot.true

pub returns : goal.returns
returns c =
    let some = c.if-self-eq0.false in
    only_part _ c.find-spot.result _ _ _ c.self.view_is c.find-spot.ensures.at c.find-spot.ensures.before c.find-spot.ensures.has
    (omega (arith, some)) c.if-self-spot.false
