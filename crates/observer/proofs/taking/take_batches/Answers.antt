use Rattle.std.proofs.Common.{arith, length, refl, ap, ◌∙◌, sym}
use Rattle.std.proofs.lemmas.Grind.{common_steps}
use Rattle.sub_queue.specs.declared.items.Item.TheVariants.{One}
use Rattle.sub_queue.specs.Ends.{end_of}
use Rattle.sub_queue.proofs.Lists.{end_pushed}
use Rattle.observer.proofs.Taken.{takes_nothing, takes_batch, takes_end, end_taken, stops}
use Rattle.observer.proofs.taking.take_batches.Goals as goal

pub returns-in-Some-clause-takes : goal.returns-in-Some-clause-takes
returns-in-Some-clause-takes g c =
    stops _ _ (takes_nothing c.args.tap.now c.args.flow.now _ c.requires.none) c.stopped.ensures (omega arith) (sym c.in-Some.ensures)

pub items-init : goal.items-init
items-init g c = record {
  some = takes_nothing c.args.tap.now c.args.flow.now _ c.requires.none;
  none = sym c.ended.ensures ∙ c.in_default.is;
  most = omega arith;
  count = let none = ap (λ bs. length bs) c.requires.none in omega (arith, none);
  room = refl;
}

pub items-preserved : goal.items-preserved
items-preserved g c = record {
  some = takes_batch c.in-One.batch c.items.invariant.some c.in-One.ensures c.print.ensures c.push_back_reserved.ensures.items;
  none = ap (λ t. end_of t.taken) c.in-One.ensures.1 ∙ end_pushed c.items.tap.taken (One c.in-One.batch) c.in-One.ensures.0;
  most = omega arith;
  count = grind (arith, common_steps);
  room = c.push_back_reserved.ensures.capacity ∙ c.items.invariant.room;
}

pub returns-in-Ended-clause-takes : goal.returns-in-Ended-clause-takes
returns-in-Ended-clause-takes g c =
    stops _ _ (takes_end c.in-Ended.end c.items.invariant.some (end_taken c.in-Ended.end c.items.invariant.none c.in-Ended.ensures.0 c.in-Ended.ensures.1))
    c.stopped-in-Ended.ensures (omega arith) c.in-Ended.ensures.0
