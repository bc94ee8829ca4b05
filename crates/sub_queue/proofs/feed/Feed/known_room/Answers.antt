use Rattle.std.proofs.Common.{rules}
use Rattle.sub_queue.proofs.Sizes.{sizes_weight}
use Rattle.sub_queue.proofs.feed.Feed.known_room.Goals as goal

pub returns : goal.returns
returns g c = let e = sizes_weight g.T.Measured.measure _ _ _ c.self.invariant.1.1 in search (rules, e)
