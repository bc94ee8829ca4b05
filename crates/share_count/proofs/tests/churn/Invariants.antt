use Rattle.std.proofs.Common.{◌≡◌}
use Rattle.share_count.proofs.tests.churn.Given as goal

abbrev pub invariant-loop : goal.invariant-loop
invariant-loop l = l.unit.table ≡ l.fn.unit.table
