use Rattle.std.proofs.Common.{◌≡◌, arith}
use Rattle.iobuf_chain.proofs.Ranged.{to_begin, to_step, to_end, to_refused, to_stop, some_mint, refused_mint}
use Rattle.iobuf_chain.proofs.range.share_parts.Goals as goal

pub returns-in-Err-clause-refused : goal.returns-in-Err-clause-refused
returns-in-Err-clause-refused g c =
    to_refused _ _ _ _ _ _ _ _ _ _ _ _ c.nodes.invariant c.in-Err.ensures.refused.0 c.in-Err.ensures.refused_shares

pub returns-in-Err-clause-mint : goal.returns-in-Err-clause-mint
returns-in-Err-clause-mint g c = refused_mint _ _ _ _ _ _ _ _ _ _ _ c.nodes.invariant c.in-Err.ensures.refused.1

pub nodes-preserved : goal.nodes-preserved
nodes-preserved g c =
    to_step _ _ _ _ _ _ _ _ _ _ _ _ _ c.length-len.result _ _ c.get.result.now c.nodes.invariant c.in-Ok.ensures.shares c.get.ensures
    c.length-len.ensures (let e = c.min-passed.ensures in omega arith) (let e = c.min-passed.ensures in let f = c.min-left.ensures in omega arith)

pub returns-clause-shares : goal.returns-clause-shares
returns-clause-shares g c = to_end _ _ _ _ _ _ _ _ _ _ c.nodes.invariant (omega arith)

pub returns-clause-mint : goal.returns-clause-mint
returns-clause-mint g c = some_mint _ _ _ _ _ _ _ _ (to_stop _ _ _ _ _ _ _ _ _ _ c.nodes.invariant)

pub nodes-init : goal.nodes-init
nodes-init g c = to_begin _ _ _ _ _ c.requires.there c.requires.none
