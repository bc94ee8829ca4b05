use Rattle.std.proofs.Common.{◌≡◌, ◌≤◌, ◌-◌, ◌++◌, take}
use Rattle.read_cursor.specs.Reading.{rest_of, moved}
use Rattle.read_cursor.proofs.cursor.Cursor.add_to.Given as goal

abbrev pub invariant-nodes : goal.invariant-nodes
invariant-nodes g l = record {
  place : l.self ≡ moved l.done l.fn.self;
  bytes : l.into.items ≡ l.fn.into.items ++ take l.done (rest_of l.fn.self);
  within : l.done ≤ l.n;
}

abbrev pub decreases-nodes : goal.decreases-nodes
decreases-nodes g l = l.n - l.done
