-- The bytes of the nodes so far.
use Rattle.std.proofs.Common.{◌≡◌, length, take}
use Rattle.buffer_model.specs.Segment.{bytes_of}
use Rattle.iobuf_chain.proofs.parts.sum_of.Given as goal

abbrev pub invariant-nodes : goal.invariant-nodes
invariant-nodes g l = l.sum ≡ length (bytes_of (take l.i l.nodes))
