use Rattle.std.proofs.Common.{◌≡◌, None, rules}
use Rattle.iobuf_node.proofs.Kept.{wrapped_moves}
use Rattle.iobuf_node.proofs.node.IoBufOf.into_managed.Goals as goal

pub returns-in-Ok-clause-totals : goal.returns-in-Ok-clause-totals
returns-in-Ok-clause-totals g c =
    let none : c.args.self.share.number ≡ None = search rules in
    wrapped_moves _ _ c.args.self c.in-Ok.node c.in-Ok.ensures.node none
