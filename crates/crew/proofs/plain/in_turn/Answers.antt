use Rattle.std.proofs.Common.{arith}
use Rattle.crew.proofs.Lists.{zip_of}
use Rattle.crew.proofs.plain.in_turn.Goals as goal

pub returns : goal.returns
returns g c = record { does = zip_of g.J.Work.does _ _ c.loop-place.invariant.long (λ k d lt. c.loop-place.invariant.done k d (omega arith)) }
