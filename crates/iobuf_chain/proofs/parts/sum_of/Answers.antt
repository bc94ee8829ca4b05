use Rattle.std.proofs.Common.{◌≡◌, ◌+◌, ◌∙◌, length, sym, ap, arith}
use Rattle.iobuf_chain.proofs.Bytes.{sum_more, sum_within}
use Rattle.iobuf_chain.proofs.parts.sum_of.Goals as goal

pub overflow_add-sum : goal.overflow_add-sum
overflow_add-sum g c =
    let more = sum_more c.nodes.i c.args.nodes.now c.get.result.now c.get.ensures in
    let within = sum_within (c.nodes.i + 1) c.args.nodes.now in
    omega (arith, more, within)

pub nodes-preserved : goal.nodes-preserved
nodes-preserved g c =
    let more = sum_more c.nodes.i c.args.nodes.now c.get.result.now c.get.ensures in
    omega (arith, more)
