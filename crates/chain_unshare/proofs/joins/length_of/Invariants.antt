-- The nodes so far have these bytes.
use Rattle.std.proofs.Common.{◌≡◌, length, take}
use Rattle.buffer_model.specs.Segment.{bytes_of}
use Rattle.chain_unshare.proofs.joins.length_of.Given as goal

abbrev pub invariant-nodes : goal.invariant-nodes
invariant-nodes g l = l.sum ≡ length (bytes_of (take l.i l.c))
