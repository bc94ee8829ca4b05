-- The nodes so far are whole.
use Rattle.std.proofs.Common.{take}
use Rattle.buffer_model.specs.Share.{IsWhole}
use Rattle.iobuf_chain.specs.Lists.{Each}
use Rattle.iobuf_chain.proofs.chain.ChainOf.is_shared.Given as goal

abbrev pub invariant-nodes : goal.invariant-nodes
invariant-nodes g l = Each (λ s. IsWhole s.share) (take l.i l.self)
