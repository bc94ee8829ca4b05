use Rattle.std.proofs.Common.{◌≡◌, ◌-◌, ◌∙◌, length, ap, sym, arith}
use Rattle.buffer_model.specs.Segment.{Segment}
use Rattle.iobuf_chain.specs.Tails.{last_of}
use Rattle.chain_unshare.proofs.Splitting.{set_at_most}
use Rattle.iobuf_queue.specs.Parts.{claims}
use Rattle.iobuf_queue.specs.Queued.{room_of}
use Rattle.iobuf_queue.proofs.Queues.{last_there, last_turned, back_keeps, sum_back, tail_of}
use Rattle.iobuf_queue.proofs.grow.claim_last.Goals as goal

pub swap_node-node-requires-clause-sum : goal.swap_node-node-requires-clause-sum
swap_node-node-requires-clause-sum g c =
    let most = set_at_most (c.elements-last.result - 1) c.args.chain.now c.empty.result in
    let none : length c.empty.result.window ≡ 0 = ap (λ (t : Segment g.row.O.Denot). length t.window) c.empty.ensures in
    omega arith

pub claim-requires : goal.claim-requires
claim-requires g c =
    let last = last_there c.args.chain.now (c.elements-last.result - 1) c.swap_node-node.result (omega (
      arith,
      c.elements-last.ensures.count,
      c.elements-last.ensures.some,
    )) c.swap_node-node.ensures.old in
    (tail_of 0 (last_of c.args.chain.now) c.swap_node-node.result last c.requires).0

pub swap_node-requires-clause-sum : goal.swap_node-requires-clause-sum
swap_node-requires-clause-sum g c =
    let sums = sum_back (c.elements-last.result - 1) _ _ c.claim.new.node c.args.chain.now _
    c.swap_node-node.ensures.old c.swap_node-node.ensures.new in
    let same : length c.claim.new.node.window ≡ length c.swap_node-node.result.window = ap (λ (t : Segment
    g.row.O.Denot). length t.window) c.claim.ensures.node in
    omega arith

pub returns-clause-room : goal.returns-clause-room
returns-clause-room g c =
    let last = last_there c.args.chain.now (c.elements-last.result - 1) c.swap_node-node.result (omega (
      arith,
      c.elements-last.ensures.count,
      c.elements-last.ensures.some,
    )) c.swap_node-node.ensures.old in
    c.tailroom-room.ensures ∙ ap (λ o. length (room_of {O = g.row.O.Denot} o)) (sym last)

pub returns-clause-nodes : goal.returns-clause-nodes
returns-clause-nodes g c =
    last_turned claims (c.elements-last.result - 1) _ _ _ _ _ _
    (omega (arith, c.elements-last.ensures.count, c.elements-last.ensures.some)) c.swap_node-node.ensures.old
    c.swap_node-node.ensures.new c.claim.ensures.node c.swap_node.ensures.new

pub returns-clause-totals : goal.returns-clause-totals
returns-clause-totals g c =
    back_keeps (c.elements-last.result - 1) _ _ _ _ _ _ c.swap_node-node.ensures.old c.swap_node-node.ensures.new
    c.swap_node.ensures.new c.claim.ensures.totals
