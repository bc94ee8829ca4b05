use Rattle.std.proofs.Common.{rules, arith}
use Rattle.sub_queue.proofs.Sizes.{sizes_caught}
use Rattle.sub_queue.proofs.feed.Feed.look.Goals as goal

pub invariant_of-self : goal.invariant_of-self
invariant_of-self g c = let p = c.catch_up.ensures.part in
    let s = sizes_caught g.T.Measured.measure _ _ _ _ p c.self.invariant.1.1 in search (rules, s, p)
