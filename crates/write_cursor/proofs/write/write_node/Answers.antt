use Rattle.std.proofs.Common.{◌≡◌, ◌+◌, ◌<◌, ◌≤◌, length, ap, ◌∙◌, arith, slice_set}
use Rattle.buffer_model.specs.Segment.{Segment, bytes_of}
use Rattle.iobuf_chain.proofs.Bytes.{sum-set}
use Rattle.iobuf_chain.proofs.Lists.{turns_at, set-set}
use Rattle.write_cursor.specs.Written.{written_in}
use Rattle.write_cursor.proofs.Writing.{empty_is, some_is, if_some, set_same, in_nothing, in_size}
use Rattle.write_cursor.proofs.write.write_node.Goals as goal

pub returns-then-is_empty : goal.returns-then-is_empty
returns-then-is_empty g c =
    let none : length c.args.bytes.now ≡ 0 = empty_is c.is_empty.result (length c.args.bytes.now) c.is_empty.ensures c.if-is_empty.true in
    record {
      item = c.node.result.now;
      there = c.node.ensures;
      turned = set_same c.args.i c.args.c.now c.node.result.now c.node.ensures
          ∙ ap (slice_set c.args.c.now c.args.i) (in_nothing c.args.at c.args.bytes.now c.node.result.now none);
    }

pub swap_node-node-requires-clause-sum : goal.swap_node-node-requires-clause-sum
swap_node-node-requires-clause-sum g c =
    let none : length c.empty.result.window ≡ 0 = ap (λ (t : Segment g.row.O.Denot). length t.window) c.empty.ensures in
    let sums = sum-set c.args.i c.args.c.now c.node.result.now c.empty.result c.node.ensures in
    omega arith

pub swap_node-requires-clause-sum : goal.swap_node-requires-clause-sum
swap_node-requires-clause-sum g c =
    let some : 0 < length c.args.bytes.now = some_is c.is_empty.result (length c.args.bytes.now) c.is_empty.ensures c.if-is_empty.false in
    let room = if_some (λ s. c.args.at + length c.args.bytes.now ≤ length s.window) _ _ c.swap_node-node.ensures.old (c.requires.room some) in
    let same : length c.write_data.new.node.window ≡ length c.swap_node-node.result.window
    = ap (λ (t : Segment g.row.O.Denot). length t.window) c.write_data.ensures ∙ in_size c.args.at c.args.bytes.now c.swap_node-node.result room in
    let back : slice_set c.swap_node-node.new.self c.args.i c.write_data.new.node ≡ slice_set c.args.c.now c.args.i c.write_data.new.node
    = ap (λ x. slice_set x c.args.i c.write_data.new.node) c.swap_node-node.ensures.new ∙ set-set c.args.i c.empty.result c.write_data.new.node c.args.c.now in
    let size = ap (λ x. length (bytes_of x)) back in
    let sums = sum-set c.args.i c.args.c.now c.swap_node-node.result c.write_data.new.node c.swap_node-node.ensures.old in
    omega (arith, size, sums, same)

pub returns : goal.returns
returns g c =
    turns_at (written_in c.args.at c.args.bytes.now) c.args.i c.empty.result c.swap_node-node.result c.write_data.new.node c.args.c.now c.swap_node-node.new.self _
    c.swap_node-node.ensures.old c.swap_node-node.ensures.new c.write_data.ensures c.swap_node.ensures.new
