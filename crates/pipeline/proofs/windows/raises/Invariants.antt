-- No stage so far is `Upper`.
use Rattle.std.proofs.Common.{◌≡◌, drop}
use Rattle.pipeline.specs.Batches.{has_upper}
use Rattle.pipeline.specs.Stages.{meanings}
use Rattle.pipeline.proofs.windows.raises.Given as goal

abbrev pub invariant-stages : goal.invariant-stages
invariant-stages g l =
    has_upper (meanings g.H.Handler.machine l.stages) ≡ has_upper (drop l.i (meanings g.H.Handler.machine l.stages))
