use Rattle.std.proofs.Common.{refl}
use Rattle.frame_mark.proofs.Stakes.{gives_back, gives_nothing}
use Rattle.frame_mark.proofs.pieces.give_up.Goals as goal

pub returns-then-is_nothing : goal.returns-then-is_nothing
returns-then-is_nothing c =
    let is = c.is_nothing.ensures c.if-is_nothing.true in
    gives_nothing is.0 _ _ is.1 is.2

pub returns : goal.returns
returns c = gives_back c.args.chain _ _ c.give_back.result c.give_back.ensures.totals refl c.push_reserved.ensures.items c.push_reserved.ensures.capacity
