use Rattle.std.proofs.Common.{length}
use Rattle.frame_reader.proofs.blocks.Blocks.keep_all.Given as goal

abbrev pub invariant-backs : goal.invariant-backs
invariant-backs l = Unit {0}

abbrev pub decreases-backs : goal.decreases-backs
decreases-backs l = length l.returns
