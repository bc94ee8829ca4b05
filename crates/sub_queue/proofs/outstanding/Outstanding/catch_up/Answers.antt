use Rattle.std.proofs.Common.{rules, refl}
use Rattle.sub_queue.proofs.Sizes.{caught_on}
use Rattle.sub_queue.proofs.outstanding.Outstanding.catch_up.Goals as goal

pub older-preserved : goal.older-preserved
older-preserved c = (
  refl,
  caught_on c.args.upto c.args.self.now c.older.self c.pass.new.self c.older.invariant.1 (search rules) (search rules) c.pass.ensures,
)
