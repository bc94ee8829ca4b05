-- So many bytes are copied.
use Rattle.std.proofs.Common.{◌≡◌, ◌≤◌, ◌-◌, length, take}
use Rattle.read_cursor.specs.Reading.{rest_of, moved}
use Rattle.read_cursor.proofs.cursor.Cursor.fill.Given as goal

abbrev pub invariant-parts : goal.invariant-parts
invariant-parts g l = record {
  place : l.self ≡ moved l.done l.fn.self;
  bytes : take l.done l.into ≡ take l.done (rest_of l.fn.self);
  size : length l.into ≡ length l.fn.into;
  some : l.done ≤ length l.into;
}

abbrev pub decreases-parts : goal.decreases-parts
decreases-parts g l = length l.into - l.done
