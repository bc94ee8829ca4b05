use Rattle.std.proofs.Common.{ap, rules}
use Rattle.sub_queue.proofs.Lists.{feeds_on}
use Rattle.sub_queue.proofs.Sizes.{sizes_weight, sizes_more}
use Rattle.sub_queue.proofs.feed.Feed.send.Goals as goal

pub add-requires-clause-fits : goal.add-requires-clause-fits
add-requires-clause-fits g c = let e = sizes_weight g.T.Measured.measure _ _ _ c.self.invariant.1.1 in search (rules, e)

pub invariant_of-self : goal.invariant_of-self
invariant_of-self g c = let old = c.self.invariant.1 in
    let s = sizes_more g.T.Measured.measure _ _ _ c.args.size c.args.item c.requires.size.0 old.1 in (
      search rules,
      (feeds_on _ _ _ old.0 (search rules) c.push_until.ensures.sent, search (rules, s), search rules),
    )
