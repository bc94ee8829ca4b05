use Rattle.std.proofs.Common.{◌∙◌, length, ap, arith}
use Rattle.buffer_model.specs.Segment.{overwritten}
use Rattle.chain_unshare.proofs.Unsharing.{copies_windows}
use Rattle.write_cursor.proofs.Alone.{unshares_as, may_write, unshares_bytes, alone_totals}
use Rattle.write_cursor.proofs.unshare.write_alone.Goals as goal

pub move_out-requires-clause-windows : goal.move_out-requires-clause-windows
move_out-requires-clause-windows g c = copies_windows _ _ _ _ c.in_ok-copies.ensures.copies

pub write_over-requires-clause-whole : goal.write_over-requires-clause-whole
write_over-requires-clause-whole g c =
    may_write {O = g.row.O.Denot} c.args.place (length c.args.bytes.now) c.args.mint.now c.copy_leaving.new.mint c.args.c.now c.move_out.new.c (unshares_as {O = g.row.O.Denot} c.args.place (length c.args.bytes.now) c.args.mint.now c.copy_leaving.new.mint c.args.c.now c.move_out.new.c c.in_ok-copies.copies.items
    c.in_ok-copies.ensures.copies c.move_out.ensures.nodes)

pub write_over-requires-clause-room : goal.write_over-requires-clause-room
write_over-requires-clause-room g c =
    let same = ap length (unshares_bytes {O = g.row.O.Denot} c.args.place (length c.args.bytes.now) c.args.mint.now c.copy_leaving.new.mint c.args.c.now c.move_out.new.c (unshares_as {O = g.row.O.Denot} c.args.place (length c.args.bytes.now) c.args.mint.now c.copy_leaving.new.mint c.args.c.now c.move_out.new.c c.in_ok-copies.copies.items
    c.in_ok-copies.ensures.copies c.move_out.ensures.nodes)) in
    omega (arith, same, c.requires)

pub returns-clause-writes : goal.returns-clause-writes
returns-clause-writes g c = record {
  ready = c.move_out.new.c;
  unshared = unshares_as {O = g.row.O.Denot} c.args.place (length c.args.bytes.now) c.args.mint.now c.copy_leaving.new.mint c.args.c.now c.move_out.new.c c.in_ok-copies.copies.items
      c.in_ok-copies.ensures.copies c.move_out.ensures.nodes;
  after_is = c.write_over.ensures.nodes;
}

pub returns-clause-bytes : goal.returns-clause-bytes
returns-clause-bytes g c =
    let same = unshares_bytes {O = g.row.O.Denot} c.args.place (length c.args.bytes.now) c.args.mint.now c.copy_leaving.new.mint c.args.c.now c.move_out.new.c (unshares_as {O = g.row.O.Denot} c.args.place (length c.args.bytes.now) c.args.mint.now c.copy_leaving.new.mint c.args.c.now c.move_out.new.c c.in_ok-copies.copies.items
    c.in_ok-copies.ensures.copies c.move_out.ensures.nodes) in
    c.write_over.ensures.bytes ∙ ap (λ xs. overwritten xs c.args.place c.args.bytes.now) same

pub returns-clause-totals : goal.returns-clause-totals
returns-clause-totals g c =
    alone_totals c.args.place c.args.bytes.now _ _ _ _ _ _ _ (unshares_as {O = g.row.O.Denot} c.args.place (length c.args.bytes.now) c.args.mint.now c.copy_leaving.new.mint c.args.c.now c.move_out.new.c c.in_ok-copies.copies.items
    c.in_ok-copies.ensures.copies c.move_out.ensures.nodes) c.move_out.ensures.totals
    c.from_backs.ensures c.write_over.ensures.totals
