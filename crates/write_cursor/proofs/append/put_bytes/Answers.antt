use Rattle.std.proofs.Common.{◌-◌, arith}
use Rattle.write_cursor.proofs.Writing.{some_if}
use Rattle.write_cursor.proofs.Appending.{room_there, ensures_room, ensures_size, put_after, put_keeps}
use Rattle.write_cursor.proofs.append.put_bytes.Goals as goal

pub fill-requires-clause-sum : goal.fill-requires-clause-sum
fill-requires-clause-sum g c =
    let size = ensures_size _ _ _ _ _ _ c.in_ok-ensure_room.ensures.ensured in
    omega (arith, size, c.requires)

pub fill-requires-clause-room : goal.fill-requires-clause-room
fill-requires-clause-room g c =
    let count = c.elements-last.ensures.count in
    let some = c.elements-last.ensures.some in
    let room = ensures_room _ _ _ _ _ _ c.in_ok-ensure_room.ensures.ensured in
    let there = room_there (c.elements-last.result - 1) c.ensure_room.new.c c.node.result.now (omega (arith, count, some)) c.node.ensures in
    some_if _ _ _ c.node.ensures (omega (arith, room, there))

pub returns-clause-put : goal.returns-clause-put
returns-clause-put g c =
    let count = c.elements-last.ensures.count in
    let some = c.elements-last.ensures.some in
    record {
      ready = c.ensure_room.new.c;
      ensured = c.in_ok-ensure_room.ensures.ensured;
      after_is = put_after (c.elements-last.result - 1) c.args.bytes.now c.ensure_room.new.c c.fill.new.c c.node.result.now (omega (arith, count, some)) c.node.ensures c.fill.ensures;
    }

pub returns-clause-totals : goal.returns-clause-totals
returns-clause-totals g c =
    let count = c.elements-last.ensures.count in
    let some = c.elements-last.ensures.some in
    put_keeps c.args.grow _ _ c.args.bytes.now _ c.ensure_room.new.c _ c.ensure_room.ensures.totals
    (put_after (c.elements-last.result - 1) c.args.bytes.now c.ensure_room.new.c c.fill.new.c c.node.result.now (omega (arith, count, some)) c.node.ensures c.fill.ensures)
