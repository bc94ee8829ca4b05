use Rattle.std.proofs.Common.{arith}
use Rattle.iobuf_chain.proofs.Bytes.{sum_more}
use Rattle.chain_unshare.proofs.Splitting.{run_stops}
use Rattle.chain_unshare.proofs.front.run_of.Goals as goal

pub returns-then-len-left-clause-run : goal.returns-then-len-left-clause-run
returns-then-len-left-clause-run g c =
    run_stops _ _ _ c.node.result.now c.nodes.invariant.most c.node.ensures (omega arith)

pub nodes-preserved : goal.nodes-preserved
nodes-preserved g c =
    let more = sum_more c.nodes.i c.args.c.now c.node.result.now c.node.ensures in
    record { most = omega arith; left = omega arith }
