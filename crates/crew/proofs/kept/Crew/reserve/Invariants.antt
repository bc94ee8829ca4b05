use Rattle.std.proofs.Common.{◌≡◌, ◌+◌, ◌≤◌, []}
use Rattle.crew.proofs.kept.Crew.reserve.Given as goal

abbrev pub invariant-loop : goal.invariant-loop
invariant-loop g l = record {
  free : l.self.out ≡ [];
  least : l.fn.self.threads ≤ l.self.threads;
  most : l.self.threads ≤ l.fn.self.threads + l.counter;
}
