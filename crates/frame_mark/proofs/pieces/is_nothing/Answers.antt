use Rattle.frame_mark.proofs.Stakes.{none_of, one_node}
use Rattle.frame_mark.proofs.pieces.is_nothing.Goals as goal

pub returns-then-elements-eq1 : goal.returns-then-elements-eq1
returns-then-elements-eq1 c holds =
    (c.node.result.now, one_node _ _ _ c.elements.ensures.count c.if-elements-eq1.true c.node.ensures, none_of _ _ _ c.is_none.ensures c.number.ensures.number holds)
