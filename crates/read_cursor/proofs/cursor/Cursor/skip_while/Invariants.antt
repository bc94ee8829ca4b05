use Rattle.std.proofs.Common.{◌≡◌, ◌+◌, ◌≤◌, ◌-◌, length}
use Rattle.read_cursor.specs.Reading.{rest_of, moved}
use Rattle.read_cursor.specs.Finds.{run_among}
use Rattle.read_cursor.proofs.cursor.Cursor.skip_while.Given as goal

abbrev pub invariant-nodes : goal.invariant-nodes
invariant-nodes g l = record {
  place : l.self ≡ moved l.passed l.fn.self;
  run : run_among l.set (rest_of l.fn.self) ≡ l.passed + run_among l.set (rest_of l.self);
  within : l.passed ≤ length (rest_of l.fn.self);
}

abbrev pub decreases-nodes : goal.decreases-nodes
decreases-nodes g l = length (rest_of l.self)
