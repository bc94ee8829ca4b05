use Rattle.std.proofs.Common.{arith}
use Rattle.write_cursor.proofs.Copying.{copying_next, copying_adds, copying_refused}
use Rattle.write_cursor.proofs.unshare.copy_leaving.Goals as goal

pub returns-in_err-copy_node-clause-mint : goal.returns-in_err-copy_node-clause-mint
returns-in_err-copy_node-clause-mint g c =
    copying_refused _ _ _ _ _ _ _ _ _ _ _ c.nodes.invariant c.node-node.ensures c.in_err-copy_node.ensures.refused.0 c.in_err-copy_node.ensures.refused.1

pub nodes-preserved : goal.nodes-preserved
nodes-preserved g c =
    copying_next _ _ _ _ _ _ _ _ _ _ _ _ _ _ _ c.node-node.result.now c.nodes.invariant c.node-node.ensures c.length-len.ensures c.saturating_sub.ensures c.saturating_sub-left.ensures
    c.saturating_sub-at.ensures c.in_ok-copy_node.ensures.copied

pub returns-clause-mint : goal.returns-clause-mint
returns-clause-mint g c = copying_adds _ _ _ _ _ _ _ _ _ c.nodes.invariant (omega arith)
