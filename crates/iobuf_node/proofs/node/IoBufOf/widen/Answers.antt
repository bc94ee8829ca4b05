use Rattle.std.proofs.Common.{sym, ap, ◌∙◌, length}
use Rattle.iobuf_node.proofs.Made.{room_on}
use Rattle.iobuf_node.proofs.node.IoBufOf.widen.Goals as goal

pub returns-in-Ok-clause-window : goal.returns-in-Ok-clause-window
returns-in-Ok-clause-window g c =
    room_on _ _ c.args.head c.args.tail c.bytes.result.now c.in-Ok.hold _ c.args.self.now _ c.in-Ok.ensures.hold c.bytes.ensures (c.length-len.ensures ∙ ap length (sym c.bytes.ensures)) (c.renew.ensures.window ∙ c.on.ensures)
