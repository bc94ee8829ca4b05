-- The nodes so far have no more bytes than these.
use Rattle.std.proofs.Common.{◌≡◌, ◌-◌, ◌≤◌, length, take}
use Rattle.buffer_model.specs.Segment.{bytes_of}
use Rattle.chain_unshare.proofs.front.run_of.Given as goal

abbrev pub invariant-nodes : goal.invariant-nodes
invariant-nodes g l = record {
  most : length (bytes_of (take l.i l.c)) ≤ l.n;
  left : l.left ≡ l.n - length (bytes_of (take l.i l.c));
}
