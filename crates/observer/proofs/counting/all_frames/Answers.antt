use Rattle.std.proofs.Common.{arith}
use Rattle.observer.proofs.Counted.{sizes_none}
use Rattle.observer.proofs.counting.all_frames.Goals as goal

pub returns : goal.returns
returns c = sizes_none c.args.batches.now.items c.batches.i _ c.batches.count (omega arith) c.batches.invariant.fits c.batches.invariant.so
