use Rattle.std.proofs.Common.{◌≡◌, []}
use Rattle.crew.proofs.tests.run_often.Given as goal

abbrev pub invariant-loop : goal.invariant-loop
invariant-loop g l = l.crew.out ≡ []
