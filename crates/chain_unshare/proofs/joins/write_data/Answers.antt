use Rattle.std.proofs.Common.{◌+◌, length, ap, arith}
use Rattle.iobuf_chain.proofs.Bytes.{sum_more}
use Rattle.chain_unshare.proofs.Joining.{sum_up, data_more}
use Rattle.chain_unshare.proofs.joins.write_data.Goals as goal

pub write_at-requires : goal.write_at-requires
write_at-requires g c =
    let more = sum_more c.nodes.i c.args.c.now c.node.result.now c.node.ensures in
    let size = ap length c.bytes-bytes.ensures in
    let up = sum_up (c.nodes.i + 1) c.args.k c.args.c.now (omega arith) in
    omega arith

pub nodes-preserved : goal.nodes-preserved
nodes-preserved g c =
    let more = sum_more c.nodes.i c.args.c.now c.node.result.now c.node.ensures in
    let size = ap length c.bytes-bytes.ensures in
    record {
      end = omega arith;
      written = data_more c.nodes.i c.args.at c.nodes.end _ c.args.c.now c.node.result.now c.args.block.now c.nodes.block c.write_at.new.block
          c.bytes-bytes.result.now c.node.ensures c.nodes.invariant.written c.bytes-bytes.ensures c.write_at.ensures;
    }
