use Rattle.std.proofs.Common.{◌-◌, ◌∙◌, ap, length, arith, slice_get, length-drop}
use Rattle.std.proofs.lemmas.List.{length-take}
use Rattle.buffer_model.specs.Segment.{bytes_of}
use Rattle.iobuf_chain.proofs.Bytes.{sum-append}
use Rattle.write_cursor.proofs.Writing.{some_if, rest_is}
use Rattle.write_cursor.proofs.Appending.{adds_size, get_before, room_there, pushes, pushes_keep}
use Rattle.write_cursor.proofs.append.push_bytes.Goals as goal

pub fill-requires-clause-sum : goal.fill-requires-clause-sum
fill-requires-clause-sum g c =
    let extends = c.in_ok-extend.ensures.extended in
    let one = ap (λ xs. length (bytes_of xs)) extends.after_is ∙ sum-append c.args.c.now extends.more in
    let two = adds_size _ _ _ _ _ extends.added in
    let three = ap length (rest_is c.args.bytes.now c.min-n.result) in
    let four = length-drop c.min-n.result c.args.bytes.now in
    let five = length-take c.min-n.result c.args.bytes.now in
    omega (arith, one, two, three, four, five, c.min-n.ensures, c.requires.sum)

pub fill-requires-clause-room : goal.fill-requires-clause-room
fill-requires-clause-room g c =
    let count = c.elements-last.ensures.count in
    let some = c.elements-last.ensures.some in
    let extends = c.in_ok-extend.ensures.extended in
    let first = length-take c.min-n.result c.args.bytes.now in
    let there = room_there (c.elements-last.result - 1) c.args.c.now c.node.result.now (omega (arith, count, some)) c.node.ensures in
    some_if _ _ c.node.result.now
    (ap (λ xs. slice_get xs (c.elements-last.result - 1)) extends.after_is ∙ get_before (c.elements-last.result - 1) c.args.c.now extends.more (omega (arith, count, some))
    ∙ c.node.ensures)
    (omega (arith, first, there, c.min-n.ensures, c.room.ensures))

pub returns-clause-pushed : goal.returns-clause-pushed
returns-clause-pushed g c =
    let count = c.elements-last.ensures.count in
    let some = c.elements-last.ensures.some in
    let few = c.min-n.ensures in
    let room = c.room.ensures in
    pushes _ (c.elements-last.result - 1) c.min-n.result _ _ c.args.bytes.now c.args.c.now _ _ c.node.result.now (omega (arith, count, some)) c.node.ensures
    (omega (arith, few, room)) c.in_ok-extend.ensures.extended c.fill.ensures

pub returns-clause-totals : goal.returns-clause-totals
returns-clause-totals g c =
    let count = c.elements-last.ensures.count in
    let some = c.elements-last.ensures.some in
    let few = c.min-n.ensures in
    let room = c.room.ensures in
    pushes_keep c.args.grow _ _ c.args.bytes.now _ _
    (pushes _ (c.elements-last.result - 1) c.min-n.result _ _ c.args.bytes.now c.args.c.now _ _ c.node.result.now (omega (arith, count, some)) c.node.ensures
    (omega (arith, few, room)) c.in_ok-extend.ensures.extended c.fill.ensures)
