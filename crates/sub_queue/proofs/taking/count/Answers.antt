use Rattle.std.proofs.Common.{rules}
use Rattle.sub_queue.proofs.Counting.{parts}
use Rattle.sub_queue.proofs.taking.count.Goals as goal

pub split_seat-tells-requires : goal.split_seat-tells-requires
split_seat-tells-requires c = (search rules, search rules, parts _ _ (search rules))
