use Rattle.std.proofs.Common.{refl, arith}
use Rattle.chain_unshare.proofs.Splitting.{between_some, empty_beside, empty_instead}
use Rattle.chain_unshare.proofs.front.split_between.Goals as goal

pub returns-then-i-eq0-clause-totals : goal.returns-then-i-eq0-clause-totals
returns-then-i-eq0-clause-totals g c = empty_beside _ _ c.args.c.now c.empty.result c.empty.ensures.chain

pub returns-clause-parts : goal.returns-clause-parts
returns-clause-parts g c =
    between_some c.args.i _ _ _ _ _ (omega arith) (omega arith) refl c.in_ok-front.ensures.taken c.in_ok-front.ensures.left

pub returns-clause-totals : goal.returns-clause-totals
returns-clause-totals g c = λ n h. c.in_ok-front.ensures.totals n

pub returns-then-i-elements-clause-totals : goal.returns-then-i-elements-clause-totals
returns-then-i-elements-clause-totals g c =
    empty_instead _ _ c.args.c.now c.in_ok-rest.rest c.replace.new.dest c.replace.result c.in_ok-rest.ensures.chain c.replace.ensures.after c.replace.ensures.value
