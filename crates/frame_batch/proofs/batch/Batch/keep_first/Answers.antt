use Rattle.std.proofs.Common.{◌∙◌, ap}
use Rattle.frame_batch.specs.Batches.{batched}
use Rattle.frame_batch.proofs.InWindows.{kept_first}
use Rattle.frame_batch.proofs.batch.Batch.keep_first.Goals as goal

pub returns : goal.returns
returns c =
    ap (λ ws. batched c.self.inside.chain ws) c.keep_first.ensures
    ∙ kept_first c.self.inside.chain c.self.inside.windows c.args.k c.args.self.now c.self.view_is
