use Rattle.std.proofs.Common.{◌≡◌, length, take, sym, ap, ◌∙◌, arith, length-drop}
use Rattle.buffer_model.specs.Segment.{Segment}
use Rattle.chain_unshare.specs.Joins.{room_before, room_after, span_of}
use Rattle.chain_unshare.proofs.Joining.{room_before_first, room_after_last, span_size, grown_size, make_joined, make_new}
use Rattle.chain_unshare.proofs.joins.join_first.Goals as goal

pub write_node-requires-clause-size : goal.write_node-requires-clause-size
write_node-requires-clause-size g c =
    let head = ap length (room_before_first c.args.k c.args.c.now c.node.result.now c.node.ensures c.requires.some) in
    let tail = ap length (room_after_last c.args.k c.args.c.now c.node-2.result.now c.node-2.ensures c.requires.some) in
    let size = span_size (take c.args.k c.args.c.now) in
    let grown = grown_size c.in-Some-checked_add.size c.in_ok-node.node c.append.new.self c.in_ok-node.ensures.node c.append.ensures.window in
    let end = c.in-Some.ensures in
    let all = c.in-Some-checked_add.ensures in
    omega (arith, head, tail, size, grown, end, all)

pub trim_start-requires : goal.trim_start-requires
trim_start-requires g c =
    let head = ap length (room_before_first c.args.k c.args.c.now c.node.result.now c.node.ensures c.requires.some) in
    let size = span_size (take c.args.k c.args.c.now) in
    let written = ap (λ (s : Segment g.row.O.Denot). length s.window) c.write_node.ensures in
    omega (arith, head, size, written)

pub trim_end-requires : goal.trim_end-requires
trim_end-requires g c =
    let head = ap length (room_before_first c.args.k c.args.c.now c.node.result.now c.node.ensures c.requires.some) in
    let tail = ap length (room_after_last c.args.k c.args.c.now c.node-2.result.now c.node-2.ensures c.requires.some) in
    let size = span_size (take c.args.k c.args.c.now) in
    let written = ap (λ (s : Segment g.row.O.Denot). length s.window) c.write_node.ensures in
    let front = ap (λ (s : Segment g.row.O.Denot). length s.window) c.trim_start.ensures.window in
    let left = length-drop c.headroom-head.result c.write_node.new.node.window in
    omega (arith, head, tail, size, written, front, left)

pub returns-clause-node : goal.returns-clause-node
returns-clause-node g c =
    let head : c.headroom-head.result ≡ length (room_before (take c.args.k c.args.c.now))
    = c.headroom-head.ensures.value ∙ ap length (sym (room_before_first c.args.k c.args.c.now c.node.result.now c.node.ensures c.requires.some)) in
    let tail : c.tailroom-tail.result ≡ length (room_after (take c.args.k c.args.c.now))
    = c.tailroom-tail.ensures ∙ ap length (sym (room_after_last c.args.k c.args.c.now c.node-2.result.now c.node-2.ensures c.requires.some)) in
    record {
      lists =
          make_joined c.headroom-head.result c.tailroom-tail.result c.in-Some-checked_add.size (take c.args.k c.args.c.now) c.in_ok-node.node c.append.new.self
          c.write_node.new.node c.trim_start.new.self c.trim_end.new.self head tail c.in_ok-node.ensures.node c.append.ensures.window c.write_node.ensures
          c.trim_start.ensures.window c.trim_end.ensures.window;
      storage =
          make_new c.args.mint.now c.create.new.mint c.headroom-head.result c.tailroom-tail.result c.in-Some-checked_add.size (span_of (take c.args.k c.args.c.now))
          c.in_ok-node.node c.append.new.self c.write_node.new.node c.trim_start.new.self c.trim_end.new.self c.in_ok-node.ensures.storage
          c.append.ensures.window c.write_node.ensures c.trim_start.ensures.window c.trim_end.ensures.window;
      mint = c.in_ok-node.ensures.mint;
    }
