use Rattle.std.proofs.Common.{◌≡◌, ◌+◌, drop}
use Rattle.read_cursor.specs.Finds.{run_among}
use Rattle.read_cursor.proofs.runs.run_of.Given as goal

abbrev pub invariant-bytes : goal.invariant-bytes
invariant-bytes l = run_among l.set l.bytes ≡ l.i + run_among l.set (drop l.i l.bytes)
