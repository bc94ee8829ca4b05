use Rattle.std.proofs.Common.{rules, arith, ◌∙◌}
use Rattle.crew.proofs.Lists.{handed, length-items_of}
use Rattle.crew.proofs.kept.hand_out.Goals as goal

pub loop-idle-preserved : goal.loop-idle-preserved
loop-idle-preserved g c =
    let more = c.push_reserved.ensures.items in
    let count = length-items_of c.loop-idle.busy.items _ c.give-given.result more in
    record {
      parted = c.loop-idle.invariant.parted ∙ handed _ _ c.give-given.result _ _ c.give-given.ensures.parted more;
      takes = c.give-given.ensures.takes;
      kept = omega arith;
      given = omega (arith, count, c.in-Some.ensures.cases, c.give-given.ensures.some, c.loop-idle.invariant.given);
      fewer = omega (arith, c.give-given.ensures.count, c.loop-idle.invariant.fewer);
      whole = omega (arith, count, c.give-given.ensures.count, c.loop-idle.invariant.whole);
      some = omega (arith, count, c.push_reserved.ensures.len, c.give-given.ensures.some, c.loop-idle.invariant.some);
      threads = search rules;
      items_room = search rules;
      idle_room = search rules;
      busy_room = search rules;
    }

pub returns-clause-spread : goal.returns-clause-spread
returns-clause-spread g c = omega (arith, c.loop-idle.invariant.whole, c.loop-idle.invariant.fewer, c.loop-idle-test.false)
