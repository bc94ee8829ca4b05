-- No stage so far is a handler.
use Rattle.std.proofs.Common.{take}
use Rattle.iobuf_chain.specs.Lists.{Each}
use Rattle.pipeline.specs.Meanings.{IsPlain}
use Rattle.pipeline.specs.Stages.{meanings}
use Rattle.pipeline.proofs.windows.are_plain.Given as goal

abbrev pub invariant-stages : goal.invariant-stages
invariant-stages g l = Each IsPlain (take l.i (meanings g.H.Handler.machine l.stages))
