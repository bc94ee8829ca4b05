use Rattle.std.proofs.Common.{◌≡◌, ◌+◌, ◌≤◌, ◌-◌, take, length}
use Rattle.read_cursor.specs.Reading.{rest_of, moved}
use Rattle.read_cursor.specs.Finds.{before_byte}
use Rattle.read_cursor.proofs.cursor.Cursor.run_until.Given as goal

abbrev pub invariant-nodes : goal.invariant-nodes
invariant-nodes g l = record {
  place : l.self ≡ moved l.passed l.fn.self;
  run : before_byte l.byte (take l.n (rest_of l.fn.self)) ≡ l.passed + before_byte l.byte (take (l.n - l.passed) (rest_of l.self));
  within : l.passed ≤ l.n;
}

abbrev pub decreases-nodes : goal.decreases-nodes
decreases-nodes g l = l.n - l.passed
