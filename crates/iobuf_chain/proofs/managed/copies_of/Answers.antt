use Rattle.std.proofs.Common.{◌≤◌, length, arith}
use Rattle.iobuf_chain.proofs.Moved.{copies_end}
use Rattle.iobuf_chain.proofs.managed.copies_of.Goals as goal

pub returns-clause-copies : goal.returns-clause-copies
returns-clause-copies g c = copies_end _ _ _ _ _ c.nodes.invariant.copies (omega arith)
