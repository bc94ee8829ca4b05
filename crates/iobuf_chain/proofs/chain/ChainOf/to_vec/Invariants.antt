-- The bytes of the nodes so far.
use Rattle.std.proofs.Common.{◌≡◌, take}
use Rattle.buffer_model.specs.Segment.{bytes_of}
use Rattle.iobuf_chain.proofs.chain.ChainOf.to_vec.Given as goal

abbrev pub invariant-nodes : goal.invariant-nodes
invariant-nodes g l = l.bytes.items ≡ bytes_of (take l.i l.self)
