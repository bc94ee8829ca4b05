use Rattle.std.proofs.Common.{◌+◌, arith}
use Rattle.iobuf_chain.proofs.Bytes.{sum_more, sum_within}
use Rattle.chain_unshare.proofs.Joining.{fewest_at}
use Rattle.chain_unshare.proofs.joins.fewest_with.Goals as goal

pub overflow_add-had : goal.overflow_add-had
overflow_add-had g c =
    let more = sum_more c.nodes.i c.args.c.now c.node.result.now c.node.ensures in
    let within = sum_within (c.nodes.i + 1) c.args.c.now in
    omega arith

pub returns-then-n-had-clause-fewest : goal.returns-then-n-had-clause-fewest
returns-then-n-had-clause-fewest g c =
    let more = sum_more c.nodes.i c.args.c.now c.node.result.now c.node.ensures in
    fewest_at c.args.n c.nodes.i c.args.c.now (omega arith) (omega arith)

pub nodes-preserved : goal.nodes-preserved
nodes-preserved g c =
    let more = sum_more c.nodes.i c.args.c.now c.node.result.now c.node.ensures in
    record { had = omega arith; fewer = omega arith }
