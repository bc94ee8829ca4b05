use Rattle.std.proofs.Common.{arith}
use Rattle.observer.proofs.Counted.{counts_all, counts_none, counts_some}
use Rattle.observer.proofs.counting.whole_in_all.Goals as goal

pub returns-then-whole-len : goal.returns-then-whole-len
returns-then-whole-len c =
    counts_some c.args.out.now c.args.batches.now.items c.batches.i _ c.batches.left c.whole_in-whole.result c.batches.count _ c.index-batch.result.now
    (omega arith) c.index-batch.ensures c.batches.invariant.so c.whole_in-whole.ensures.whole (omega arith) c.saturating_add-count.ensures

pub batches-preserved : goal.batches-preserved
batches-preserved c = record {
  so =
      counts_all c.args.out.now c.args.batches.now.items c.batches.i _ c.batches.left c.whole_in-whole.new.left c.whole_in-whole.result c.batches.count _ c.index-batch.result.now
      (omega arith) c.index-batch.ensures c.batches.invariant.so (omega arith) c.whole_in-whole.ensures.within c.whole_in-whole.ensures.rest c.saturating_add-count.ensures;
  fits = c.saturating_add-count.type_inv;
}

pub returns : goal.returns
returns c =
    counts_none c.args.out.now c.args.batches.now.items c.batches.i _ c.batches.left c.batches.count (omega arith) c.batches.invariant.fits c.batches.invariant.so
