-- The letters of the nodes so far are capital ones.
use Rattle.pipeline.proofs.Raising.{Raising}
use Rattle.pipeline.proofs.upper.raise_each.Given as goal

abbrev pub invariant-nodes : goal.invariant-nodes
invariant-nodes l = Raising l.fn.frame l.i l.frame
