use Rattle.std.proofs.Common.{◌≡◌, ◌-◌, length, ap, arith}
use Rattle.buffer_model.specs.Segment.{Segment, appended}
use Rattle.chain_unshare.proofs.Splitting.{set_at_most}
use Rattle.iobuf_queue.proofs.Queues.{last_there, last_turned, back_keeps, sum_back, appended_length, room_there}
use Rattle.iobuf_queue.proofs.tail.take_in.Goals as goal

pub swap_node-node-requires-clause-sum : goal.swap_node-node-requires-clause-sum
swap_node-node-requires-clause-sum g c =
    let most = set_at_most (c.elements-last.result - 1) c.args.chain.now c.empty.result in
    let none : length c.empty.result.window ≡ 0 = ap (λ (t : Segment g.row.O.Denot). length t.window) c.empty.ensures in
    omega (arith, most, none, c.requires.sum)

pub append-requires : goal.append-requires
append-requires g c =
    room_there c.args.n _ _
    (last_there c.args.chain.now (c.elements-last.result - 1) _ (omega (
      arith,
      c.elements-last.ensures.count,
      c.elements-last.ensures.some,
    )) c.swap_node-node.ensures.old)
    c.requires.room

pub swap_node-requires-clause-sum : goal.swap_node-requires-clause-sum
swap_node-requires-clause-sum g c =
    let sums = sum_back (c.elements-last.result - 1) _ _ c.append.new.self c.args.chain.now _
    c.swap_node-node.ensures.old c.swap_node-node.ensures.new in
    let more = appended_length c.args.n _ _ c.append.ensures.window in
    omega (arith, sums, more, c.requires.sum)

pub returns-clause-nodes : goal.returns-clause-nodes
returns-clause-nodes g c =
    last_turned (appended c.args.n) (c.elements-last.result - 1) _ _ _ _ _ _
    (omega (arith, c.elements-last.ensures.count, c.elements-last.ensures.some)) c.swap_node-node.ensures.old
    c.swap_node-node.ensures.new c.append.ensures.window c.swap_node.ensures.new

pub returns-clause-totals : goal.returns-clause-totals
returns-clause-totals g c =
    back_keeps (c.elements-last.result - 1) _ _ _ _ _ _ c.swap_node-node.ensures.old c.swap_node-node.ensures.new
    c.swap_node.ensures.new c.append.ensures.totals
