-- The nodes so far have another number, or none.
use Rattle.std.proofs.Common.{take}
use Rattle.iobuf_chain.specs.Receipts.{LacksNumber}
use Rattle.iobuf_chain.proofs.absorb.first_with.Given as goal

abbrev pub invariant-nodes : goal.invariant-nodes
invariant-nodes g l = LacksNumber l.number (take l.i l.nodes)
