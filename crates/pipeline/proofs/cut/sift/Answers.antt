use Rattle.std.proofs.Common.{ℕ, ◌-◌, ◌∙◌, min, ap, arith}
use Rattle.pipeline.proofs.Sifting.{sifting_begins, sifting_step, sifting_ends}
use Rattle.pipeline.proofs.cut.sift.Goals as goal

pub nodes-init : goal.nodes-init
nodes-init c = record {
  sifting = sifting_begins c.args.at c.args.n c.args.frame.now c.args.backs.now.items c.requires.within;
  room = (let room = c.requires.room in omega (arith, room));
}

pub nodes-preserved : goal.nodes-preserved
nodes-preserved c = record {
  sifting =
      sifting_step _ _ _ _ _ _ _ _ _ _ _ _ _ c.node.result.now c.nodes.invariant.sifting
      (let low = c.nodes-test.true in let end = c.elements-end.ensures.count in omega (arith, low, end)) c.node.ensures
      (c.min-front.ensures ∙ ap (λ (k : ℕ). min c.nodes.at k) c.length-had.ensures)
      (c.min-stays.ensures ∙ ap (λ (k : ℕ). min c.nodes.left (k - c.min-front.result)) c.length-had.ensures) c.sift_first.ensures.sifts;
  room = (let room = c.nodes.invariant.room in let cap = c.sift_first.ensures.capacity in omega (arith, room, cap));
}

pub returns-clause-bytes : goal.returns-clause-bytes
returns-clause-bytes c = (sifting_ends _ _ _ _ _ _ _ _ _ c.nodes.invariant.sifting
    (let high = c.nodes-test.false in let end = c.elements-end.ensures.count in omega (arith, high, end))).0

pub returns-clause-sheds : goal.returns-clause-sheds
returns-clause-sheds c = (sifting_ends _ _ _ _ _ _ _ _ _ c.nodes.invariant.sifting
    (let high = c.nodes-test.false in let end = c.elements-end.ensures.count in omega (arith, high, end))).1

pub returns-clause-handed : goal.returns-clause-handed
returns-clause-handed c = (sifting_ends _ _ _ _ _ _ _ _ _ c.nodes.invariant.sifting
    (let high = c.nodes-test.false in let end = c.elements-end.ensures.count in omega (arith, high, end))).2

pub returns-clause-totals : goal.returns-clause-totals
returns-clause-totals c = (sifting_ends _ _ _ _ _ _ _ _ _ c.nodes.invariant.sifting
    (let high = c.nodes-test.false in let end = c.elements-end.ensures.count in omega (arith, high, end))).3
