-- The bytes of the nodes so far are written.
use Rattle.std.proofs.Common.{◌≡◌, ◌+◌, ◌++◌, length, take}
use Rattle.buffer_model.specs.Segment.{bytes_of}
use Rattle.chain_unshare.proofs.joins.write_data.Given as goal

abbrev pub invariant-nodes : goal.invariant-nodes
invariant-nodes g l = record {
  end : l.end ≡ l.at + length (bytes_of (take l.i l.c));
  written : take l.end l.block ≡ take l.at l.fn.block ++ bytes_of (take l.i l.c);
}
