use Rattle.std.proofs.Common.{refl, arith}
use Rattle.iobuf_chain.proofs.Rejoined.{regains_each}
use Rattle.chain_unshare.proofs.Splitting.{enough, splits_bytes, splits_heavy, splits_copy_nothing, at_node, at_between}
use Rattle.chain_unshare.proofs.front.split.Goals as goal

pub returns-then-had-n-clause-refused : goal.returns-then-had-n-clause-refused
returns-then-had-n-clause-refused g c = regains_each _ _ refl

pub returns-in-Ok-clause-bytes : goal.returns-in-Ok-clause-bytes
returns-in-Ok-clause-bytes g c =
    splits_bytes c.args.n _ _ _ _ _
    (at_node c.args.n c.run_of-i.result.0 _ _ _ _ _ _ c.run_of-i.ensures.run c.run_of-i.ensures.left c.if-left-gt0.true c.in-Ok.ensures.parts)

pub returns-in-Ok-split_between-clause-bytes : goal.returns-in-Ok-split_between-clause-bytes
returns-in-Ok-split_between-clause-bytes g c =
    splits_bytes c.args.n _ _ _ _ _
    (at_between c.args.n c.run_of-i.result.0 _ _ _ _ _ _ c.run_of-i.ensures.run c.run_of-i.ensures.left c.if-left-gt0.false c.in-Ok-split_between.ensures.parts)

pub returns-in-Err-split_between-clause-refused : goal.returns-in-Err-split_between-clause-refused
returns-in-Err-split_between-clause-refused g c = regains_each _ _ c.in-Err-split_between.ensures.refused

pub returns-in-Ok-clause-heavy : goal.returns-in-Ok-clause-heavy
returns-in-Ok-clause-heavy g c =
    splits_heavy c.args.n _ _ _ _ _
    (at_node c.args.n c.run_of-i.result.0 _ _ _ _ _ _ c.run_of-i.ensures.run c.run_of-i.ensures.left c.if-left-gt0.true c.in-Ok.ensures.parts)

pub returns-in-Ok-split_between-clause-heavy : goal.returns-in-Ok-split_between-clause-heavy
returns-in-Ok-split_between-clause-heavy g c =
    splits_heavy c.args.n _ _ _ _ _
    (at_between c.args.n c.run_of-i.result.0 _ _ _ _ _ _ c.run_of-i.ensures.run c.run_of-i.ensures.left c.if-left-gt0.false c.in-Ok-split_between.ensures.parts)

pub returns-in-Ok-clause-copies : goal.returns-in-Ok-clause-copies
returns-in-Ok-clause-copies g c =
    splits_copy_nothing c.args.n _ _ _ _ _
    (at_node c.args.n c.run_of-i.result.0 _ _ _ _ _ _ c.run_of-i.ensures.run c.run_of-i.ensures.left c.if-left-gt0.true c.in-Ok.ensures.parts)

pub returns-in-Ok-split_between-clause-copies : goal.returns-in-Ok-split_between-clause-copies
returns-in-Ok-split_between-clause-copies g c =
    splits_copy_nothing c.args.n _ _ _ _ _
    (at_between c.args.n c.run_of-i.result.0 _ _ _ _ _ _ c.run_of-i.ensures.run c.run_of-i.ensures.left c.if-left-gt0.false c.in-Ok-split_between.ensures.parts)

pub returns-in-Ok-clause-short : goal.returns-in-Ok-clause-short
returns-in-Ok-clause-short g c = enough _ _ _ (omega (arith, c.if-had-n.false, c.length-had.ensures))
