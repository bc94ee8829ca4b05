use Rattle.std.proofs.Common.{length}
use Rattle.frame_reader.proofs.blocks.Blocks.settle.Given as goal

abbrev pub invariant-returns : goal.invariant-returns
invariant-returns l = Unit {0}

abbrev pub decreases-returns : goal.decreases-returns
decreases-returns l = length l.back.items
