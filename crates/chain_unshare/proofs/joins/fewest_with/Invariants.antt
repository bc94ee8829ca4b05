-- The nodes so far have fewer bytes.
use Rattle.std.proofs.Common.{◌≡◌, ◌<◌, length, take}
use Rattle.buffer_model.specs.Segment.{bytes_of}
use Rattle.chain_unshare.proofs.joins.fewest_with.Given as goal

abbrev pub invariant-nodes : goal.invariant-nodes
invariant-nodes g l = record {
  had : l.had ≡ length (bytes_of (take l.i l.c));
  fewer : l.had < l.n;
}
