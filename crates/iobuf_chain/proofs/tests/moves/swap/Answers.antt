use Rattle.std.proofs.Common.{◌≡◌, ◌+◌, length, slice_set, arith}
use Rattle.buffer_model.specs.Segment.{bytes_of}
use Rattle.iobuf_chain.proofs.Bytes.{sum-set}
use Rattle.iobuf_chain.proofs.tests.moves.swap.Goals as goal

pub swap_node-requires-clause-sum : goal.swap_node-requires-clause-sum
swap_node-requires-clause-sum c =
    let sums : length (bytes_of (slice_set c.args.chain.now c.args.i c.args.node)) + length c.node-old.result.now.window
    ≡ length (bytes_of c.args.chain.now) + length c.args.node.window
    = sum-set c.args.i c.args.chain.now c.node-old.result.now c.args.node c.node-old.ensures in
    let most = c.requires.sum in
    omega (arith, sums, most)
