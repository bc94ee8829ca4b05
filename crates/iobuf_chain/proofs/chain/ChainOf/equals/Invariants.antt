-- The bytes of the nodes so far are in front of what is left.
use Rattle.std.proofs.Common.{◌≡◌, ◌++◌, take}
use Rattle.buffer_model.specs.Segment.{bytes_of}
use Rattle.iobuf_chain.proofs.chain.ChainOf.equals.Given as goal

abbrev pub invariant-nodes : goal.invariant-nodes
invariant-nodes g l = l.bytes ≡ bytes_of (take l.i l.self) ++ l.left
