-- The stages that are left leave of this window what all leave of the first.
use Rattle.std.proofs.Common.{◌≡◌, ◌+◌, ◌<◌, ◌^◌, drop}
use Rattle.pipeline.specs.Batches.{placed}
use Rattle.pipeline.specs.Stages.{meanings}
use Rattle.pipeline.proofs.windows.place.Given as goal

abbrev pub invariant-stages : goal.invariant-stages
invariant-stages g l = record {
  window : placed (meanings g.H.Handler.machine l.stages) l.fn.window ≡ placed (drop l.i (meanings g.H.Handler.machine l.stages)) l.window;
  within : l.window.place + l.window.size < 2 ^ 64;
}
