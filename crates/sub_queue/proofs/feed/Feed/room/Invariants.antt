use Rattle.sub_queue.specs.Sizes.{Looked}
use Rattle.sub_queue.proofs.feed.Feed.room.Given as goal

abbrev pub invariant-looks : goal.invariant-looks
invariant-looks g l = Looked l.fn.self l.self
