use Rattle.std.proofs.Common.{◌≡◌, ◌+◌, length, ap, ◌∙◌, arith, slice_set}
use Rattle.buffer_model.specs.Segment.{Segment, bytes_of}
use Rattle.iobuf_chain.proofs.Bytes.{sum-set}
use Rattle.iobuf_chain.proofs.Lists.{turns_at, set-set}
use Rattle.write_cursor.specs.Appended.{grown_by}
use Rattle.write_cursor.proofs.Writing.{empty_is, set_same}
use Rattle.write_cursor.proofs.Appending.{grown_none, grown_size}
use Rattle.write_cursor.proofs.append.fill.Goals as goal

pub returns-then-is_empty : goal.returns-then-is_empty
returns-then-is_empty g c =
    let none : length c.args.bytes.now ≡ 0 = empty_is c.is_empty.result (length c.args.bytes.now) c.is_empty.ensures c.if-is_empty.true in
    record {
      item = c.node.result.now;
      there = c.node.ensures;
      turned = set_same c.args.i c.args.c.now c.node.result.now c.node.ensures
          ∙ ap (slice_set c.args.c.now c.args.i) (grown_none c.args.bytes.now c.node.result.now none);
    }

pub swap_node-node-requires-clause-sum : goal.swap_node-node-requires-clause-sum
swap_node-node-requires-clause-sum g c =
    let none : length c.empty.result.window ≡ 0 = ap (λ (t : Segment g.row.O.Denot). length t.window) c.empty.ensures in
    let sums = sum-set c.args.i c.args.c.now c.node.result.now c.empty.result c.node.ensures in
    omega arith

pub swap_node-requires-clause-sum : goal.swap_node-requires-clause-sum
swap_node-requires-clause-sum g c =
    let same : length c.grow_node.new.node.window ≡ length c.swap_node-node.result.window + length c.args.bytes.now
    = ap (λ (t : Segment g.row.O.Denot). length t.window) c.grow_node.ensures ∙ grown_size c.args.bytes.now c.swap_node-node.result in
    let back : slice_set c.swap_node-node.new.self c.args.i c.grow_node.new.node ≡ slice_set c.args.c.now c.args.i c.grow_node.new.node
    = ap (λ x. slice_set x c.args.i c.grow_node.new.node) c.swap_node-node.ensures.new ∙ set-set c.args.i c.empty.result c.grow_node.new.node c.args.c.now in
    let size = ap (λ x. length (bytes_of x)) back in
    let sums = sum-set c.args.i c.args.c.now c.swap_node-node.result c.grow_node.new.node c.swap_node-node.ensures.old in
    omega (arith, size, sums, same, c.requires.sum)

pub returns : goal.returns
returns g c =
    turns_at (grown_by c.args.bytes.now) c.args.i c.empty.result c.swap_node-node.result c.grow_node.new.node c.args.c.now c.swap_node-node.new.self _
    c.swap_node-node.ensures.old c.swap_node-node.ensures.new c.grow_node.ensures c.swap_node.ensures.new
