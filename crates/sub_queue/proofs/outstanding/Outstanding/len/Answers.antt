use Rattle.std.proofs.Common.{rules}
use Rattle.sub_queue.proofs.Sizes.{count_total}
use Rattle.sub_queue.proofs.outstanding.Outstanding.len.Goals as goal

pub returns-clause-most : goal.returns-clause-most
returns-clause-most c = let e = count_total c.self.inside.list.items c.self.invariant.3 in search (rules, e)
