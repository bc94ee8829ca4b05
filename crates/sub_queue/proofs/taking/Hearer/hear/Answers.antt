use Rattle.std.proofs.Common.{rules}
use Rattle.sub_queue.proofs.Counting.{hears}
use Rattle.sub_queue.proofs.taking.Hearer.hear.Goals as goal

pub load-requires : goal.load-requires
load-requires c = (search rules, search rules, hears _ _ _)
