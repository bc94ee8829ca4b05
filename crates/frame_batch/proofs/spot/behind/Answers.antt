use Rattle.std.proofs.Common.{ap, length, arith}
use Rattle.iobuf_chain.proofs.Bytes.{sum_more}
use Rattle.frame_batch.proofs.InNodes.{next_there}
use Rattle.frame_batch.proofs.spot.behind.Goals as goal

pub node-requires : goal.node-requires
node-requires c =
    let l = ap length c.requires.at.bytes in
    let first = c.requires.at.first in
    let more = c.requires.more in
    next_there c.args.spot.index c.args.chain.now c.requires.at.node c.requires.at.there (omega (arith, l, first, more))

pub overflow_add-index : goal.overflow_add-index
overflow_add-index c =
    let within = node-requires c in
    let count = c.elements.ensures.count in
    let most = c.elements.type_inv in
    omega (arith, within, count, most)

pub returns-clause-at : goal.returns-clause-at
returns-clause-at c =
    let l = ap length c.requires.at.bytes in
    let first = c.requires.at.first in
    let sum = sum_more c.args.spot.index c.args.chain.now c.requires.at.node c.requires.at.there in
    record { node = c.node.result.now; there = c.node.ensures; bytes = c.bytes.ensures; first = omega (arith, l, first, sum) }
