use Rattle.std.proofs.Common.{◌≡◌, ◌+◌, ◌≤◌, ◌<◌, length, take, arith}
use Rattle.buffer_model.specs.Segment.{bytes_of}
use Rattle.iobuf_chain.proofs.Bytes.{sum_within}
use Rattle.iobuf_chain.proofs.tests.moves.cut.Goals as goal

pub cut_before-requires-clause-sum : goal.cut_before-requires-clause-sum
cut_before-requires-clause-sum c =
    let within = sum_within c.args.i c.args.chain.now in
    let most = c.requires.sum in
    omega (arith, within, most)
