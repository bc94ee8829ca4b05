use Rattle.std.proofs.Common.{append-nil, ◌∙◌}
use Rattle.buffered_io.proofs.Prints.{prints_both, prints_same}
use Rattle.drainer_trials.proofs.drainer.DrainerWork.work.Goals as goal

pub returns : goal.returns
returns g c = (
  c.clear.ensures.items,
  prints_same (append-nil c.deref.result.now ∙ c.deref.ensures.value) (prints_both c.put.ensures.prints c.flush.ensures.prints),
  c.flush.ensures.empty,
)
