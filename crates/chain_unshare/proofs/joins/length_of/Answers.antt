use Rattle.std.proofs.Common.{◌+◌, arith}
use Rattle.iobuf_chain.proofs.Bytes.{sum_more, sum_within}
use Rattle.chain_unshare.proofs.joins.length_of.Goals as goal

pub overflow_add-sum : goal.overflow_add-sum
overflow_add-sum g c =
    let more = sum_more c.nodes.i c.args.c.now c.node.result.now c.node.ensures in
    let within = sum_within (c.nodes.i + 1) c.args.c.now in
    let sum = c.nodes.invariant in
    omega arith

pub nodes-preserved : goal.nodes-preserved
nodes-preserved g c =
    let more = sum_more c.nodes.i c.args.c.now c.node.result.now c.node.ensures in
    let sum = c.nodes.invariant in
    omega arith
