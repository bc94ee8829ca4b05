use Rattle.std.proofs.Common.{◌≡◌, None}
use Rattle.sub_queue.specs.Ends.{end_of}
use Rattle.sub_queue.proofs.tests.push_one.Given as goal

abbrev pub invariant-tries : goal.invariant-tries
invariant-tries g l = end_of l.feed.sent ≡ None
