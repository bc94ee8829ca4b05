use Rattle.write_cursor.proofs.Appending.{one_keeps}
use Rattle.write_cursor.proofs.append.ensure_room.Goals as goal

pub returns-clause-totals : goal.returns-clause-totals
returns-clause-totals g c = one_keeps _ _ c.args.c.now _ c.in_ok-node.node c.in_ok-add_node.ensures.added c.in_ok-node.ensures.storage
