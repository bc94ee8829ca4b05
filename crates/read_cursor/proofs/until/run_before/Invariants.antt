use Rattle.std.proofs.Common.{◌≡◌, ◌+◌, drop}
use Rattle.read_cursor.specs.Finds.{before_byte}
use Rattle.read_cursor.proofs.until.run_before.Given as goal

abbrev pub invariant-bytes : goal.invariant-bytes
invariant-bytes l = before_byte l.byte l.bytes ≡ l.i + before_byte l.byte (drop l.i l.bytes)
