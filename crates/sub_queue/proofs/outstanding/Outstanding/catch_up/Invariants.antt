use Rattle.std.proofs.Common.{◌≡◌, ◌≤◌, ℕ, length}
use Rattle.sub_queue.specs.Sizes.{CatchesUp}
use Rattle.sub_queue.proofs.outstanding.Outstanding.catch_up.Given as goal

abbrev pub invariant-older : goal.invariant-older
invariant-older l = (l.upto ≡ l.fn.upto) × CatchesUp l.fn.upto l.fn.self l.self

abbrev pub decreases-older : goal.decreases-older
decreases-older l = length l.self.sizes
