use Rattle.std.proofs.Common.{rules, arith}
use Rattle.sub_queue.proofs.Counting.{tells}
use Rattle.sub_queue.proofs.taking.Teller.tell.Goals as goal

pub store-requires : goal.store-requires
store-requires g c = (search rules, search rules, tells _ _ _ _ c.self.invariant.1 (search rules))
