use Rattle.std.proofs.Common.{rules}
use Rattle.sub_queue.proofs.Sizes.{count_total, total_more, positive_more}
use Rattle.sub_queue.proofs.outstanding.Outstanding.add.Goals as goal

pub push_back_reserved-requires : goal.push_back_reserved-requires
push_back_reserved-requires c = let e = count_total c.self.inside.list.items c.self.invariant.3 in search (rules, e)

pub invariant_of-self : goal.invariant_of-self
invariant_of-self c = let e = total_more c.self.inside.list.items c.args.size in
    let s = positive_more c.self.inside.list.items c.args.size c.self.invariant.3 c.requires.positive in
    search (rules, e, s)
