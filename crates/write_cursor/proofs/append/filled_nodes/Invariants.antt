-- The nodes so far, with those for the rest, are nodes for all.
use Rattle.std.proofs.Common.{◌≡◌, ◌+◌, List, ◌++◌, length}
use Rattle.buffer_model.specs.Segment.{Segment, bytes_of}
use Rattle.buffer_model.specs.Minted.{Numbers, NumbersOn}
use Rattle.write_cursor.specs.Appended.{AddsNodes}
use Rattle.write_cursor.proofs.append.filled_nodes.Given as goal

abbrev pub invariant-pieces : goal.invariant-pieces
invariant-pieces g l = record {
  adds : (m : Numbers) (ss : List (Segment g.row.O.Denot)) → AddsNodes l.grow l.mint m l.rest ss → AddsNodes l.grow l.fn.mint m l.bytes (l.chain ++ ss);
  sum : length (bytes_of l.chain) + length l.rest ≡ length l.bytes;
  on : NumbersOn l.fn.mint l.mint;
}

abbrev pub decreases-pieces : goal.decreases-pieces
decreases-pieces g l = length l.rest
