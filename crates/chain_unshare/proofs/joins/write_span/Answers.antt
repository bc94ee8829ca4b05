use Rattle.std.proofs.Common.{◌≡◌, ◌++◌, length, take, sym, ap, ◌∙◌, arith}
use Rattle.buffer_model.specs.Segment.{bytes_of}
use Rattle.chain_unshare.specs.Joins.{room_before, room_after}
use Rattle.chain_unshare.proofs.Joining.{room_before_first, room_after_last, span_size, wrote_span}
use Rattle.chain_unshare.proofs.joins.write_span.Goals as goal

pub write_at-requires-2 : goal.write_at-requires-2
write_at-requires-2 g c =
    let size = span_size (take c.args.k c.args.c.now) in
    let head : length c.headroom_of-head.result.now ≡ length (room_before (take c.args.k c.args.c.now))
    = ap length (c.headroom_of-head.ensures ∙ sym (room_before_first c.args.k c.args.c.now c.node.result.now c.node.ensures c.requires.some)) in
    let tail : length c.tailroom_of.result.now ≡ length (room_after (take c.args.k c.args.c.now))
    = ap length (c.tailroom_of.ensures ∙ sym (room_after_last c.args.k c.args.c.now c.node-2.result.now c.node-2.ensures c.requires.some)) in
    omega arith

pub returns : goal.returns
returns g c =
    let size = span_size (take c.args.k c.args.c.now) in
    let first : c.headroom_of-head.result.now ≡ room_before (take c.args.k c.args.c.now)
    = c.headroom_of-head.ensures ∙ sym (room_before_first c.args.k c.args.c.now c.node.result.now c.node.ensures c.requires.some) in
    let last : c.tailroom_of.result.now ≡ room_after (take c.args.k c.args.c.now)
    = c.tailroom_of.ensures ∙ sym (room_after_last c.args.k c.args.c.now c.node-2.result.now c.node-2.ensures c.requires.some) in
    let head = ap length first in
    let tail = ap length last in
    wrote_span c.headroom_of-head.result.now (bytes_of (take c.args.k c.args.c.now)) c.tailroom_of.result.now c.args.block.now c.write_at.new.block
    c.write_data-end.new.block c.write_at-2.new.block c.write_data-end.result c.write_at.ensures c.write_data-end.ensures.written c.write_at-2.ensures (omega arith)
    ∙ ap (λ bs. bs ++ (bytes_of (take c.args.k c.args.c.now) ++ c.tailroom_of.result.now)) first
    ∙ ap (λ bs. room_before (take c.args.k c.args.c.now) ++ (bytes_of (take c.args.k c.args.c.now) ++ bs)) last
