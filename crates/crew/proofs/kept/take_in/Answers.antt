use Rattle.std.proofs.Common.{rules, arith, ◌∙◌, ap, ◌++◌, [], List, append_assoc, append-nil, refl, sym}
use Rattle.crew.proofs.Lists.{returned, zip_append, length-items_of}
use Rattle.crew.proofs.kept.take_in.Goals as goal

pub loop-one-init : goal.loop-one-init
loop-one-init g c = record {
  back = ([], [], refl, sym (append-nil c.args.items.now.items), tt);
  room = c.requires.room;
  threads = refl;
  idle_room = refl;
  busy_room = refl;
}

pub take_batch-bench-requires : goal.take_batch-bench-requires
take_batch-bench-requires g c =
    let count = length-items_of _ c.loop-one.busy.items c.in-Some.one c.in-Some.ensures.items in record { room = omega (arith, count, c.loop-one.invariant.room) }

pub loop-one-preserved : goal.loop-one-preserved
loop-one-preserved g c =
    let before = c.loop-one.invariant.back in
    let batch = c.in-Some.one in
    let back = c.take_batch-bench.ensures.back in
    let count = length-items_of _ c.loop-one.busy.items batch c.in-Some.ensures.items in
    record {
      back = (
        before.0 ++ batch.items.items,
        before.1 ++ back.0,
        returned _ _ batch _ _ before.2 c.in-Some.ensures.items,
        back.1 ∙ ap (λ (l : List g.row.J.Denot). l ++ back.0) before.3 ∙ append_assoc c.args.items.now.items before.1 back.0,
        zip_append g.J.Work.does before.0 before.1 batch.items.items back.0 before.4 back.2,
      );
      room = omega (arith, count, c.loop-one.invariant.room, c.take_batch-bench.ensures.len, c.take_batch-bench.ensures.capacity);
      threads = search rules;
      idle_room = search rules;
      busy_room = search rules;
    }
