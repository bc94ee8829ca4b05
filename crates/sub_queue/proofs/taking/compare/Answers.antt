use Rattle.std.proofs.Common.{rules}
use Rattle.sub_queue.proofs.Counting.{hears, parts, spares, joins}
use Rattle.sub_queue.proofs.taking.compare.Goals as goal

pub split_seat-spare-requires : goal.split_seat-spare-requires
split_seat-spare-requires c = (search rules, search rules, spares _ _)

pub join_seat-requires : goal.join_seat-requires
join_seat-requires c = (search rules, search rules, search rules, search rules, joins _ _ _ _ (search rules))

pub load-requires : goal.load-requires
load-requires c = (search rules, search rules, hears _ _ _)

pub split_seat-requires : goal.split_seat-requires
split_seat-requires c = (search rules, search rules, parts _ _ (search rules))
