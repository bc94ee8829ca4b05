-- The nodes so far that aren't whole.
use Rattle.std.proofs.Common.{◌≡◌, length, take}
use Rattle.chain_unshare.specs.Unshares.{shared_in}
use Rattle.chain_unshare.proofs.moves.shared_count.Given as goal

abbrev pub invariant-nodes : goal.invariant-nodes
invariant-nodes g l = l.count ≡ length (shared_in (take l.i l.c))
