use Rattle.std.proofs.Common.{◌∙◌, arith}
use Rattle.frame_rule.proofs.Passing.{empty_node}
use Rattle.frame_rule.proofs.progress.with_data.Goals as goal

pub empties-preserved : goal.empties-preserved
empties-preserved c =
    let none = empty_node c.empties.i c.args.chain.now c.node-in-empties.result.now c.node-in-empties.ensures (omega (arith, c.length-in-empties.ensures, c.if-length-gt0-2.false)) in record {
      within = omega (arith, c.elements-nodes.ensures.count, c.empties-test.true);
      from = omega (arith, c.empties.invariant.from);
      none = none.0 ∙ c.empties.invariant.none;
      rest = none.1 ∙ c.empties.invariant.rest;
    }
