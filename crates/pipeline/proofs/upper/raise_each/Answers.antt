use Rattle.pipeline.proofs.Raising.{raising_begins, raising_alone, raising_step}
use Rattle.pipeline.proofs.Clearing.{if_some}
use Rattle.pipeline.proofs.upper.raise_each.Goals as goal

pub nodes-init : goal.nodes-init
nodes-init c = raising_begins c.args.frame.now c.requires

pub raise_at-requires-clause-alone : goal.raise_at-requires-clause-alone
raise_at-requires-clause-alone c = if_some _ _ (λ x there. raising_alone _ _ _ x c.nodes.invariant there)

pub nodes-preserved : goal.nodes-preserved
nodes-preserved c = raising_step _ _ _ _ c.nodes.invariant c.raise_at.ensures
