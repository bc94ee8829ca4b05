use Rattle.std.proofs.Common.{◌≡◌, None}
use Rattle.sub_queue.specs.Ends.{end_of}
use Rattle.sub_queue.proofs.tests.pushed.Given as goal

abbrev pub invariant-sizes : goal.invariant-sizes
invariant-sizes g l = (end_of l.feed.sent ≡ None) × (l.feed.line ≡ l.fn.feed.line)
