use Rattle.std.proofs.Common.{◌-◌, sym, ◌∙◌, arith}
use Rattle.write_cursor.proofs.Appending.{room_there, room_whole, room_other}
use Rattle.chain_unshare.proofs.Unsharing.{told_whole, told_other}
use Rattle.write_cursor.proofs.append.room.Goals as goal

pub returns-then-whole : goal.returns-then-whole
returns-then-whole g c =
    let whole = told_whole c.whole.result c.node-last.result.now.share c.if-whole.true c.whole.ensures.whole in
    let count = c.elements.ensures.count in
    let some = c.elements.ensures.some in
    c.tailroom.ensures
    ∙ sym (room_there (c.elements.result - 1) c.args.c.now c.node-last.result.now (omega (arith, count, some)) c.node-last.ensures ∙ room_whole c.node-last.result.now whole)

pub returns : goal.returns
returns g c =
    let other = told_other c.whole.result c.node-last.result.now.share c.if-whole.false c.whole.ensures.whole in
    let count = c.elements.ensures.count in
    let some = c.elements.ensures.some in
    sym (room_there (c.elements.result - 1) c.args.c.now c.node-last.result.now (omega (arith, count, some)) c.node-last.ensures ∙ room_other c.node-last.result.now other)
