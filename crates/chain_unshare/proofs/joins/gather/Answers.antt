use Rattle.std.proofs.Common.{sym, arith}
use Rattle.std.proofs.lemmas.List.{take-append-drop}
use Rattle.iobuf_chain.proofs.Bytes.{sum_more}
use Rattle.chain_unshare.proofs.Joining.{folds_bytes, folds_totals}
use Rattle.chain_unshare.proofs.joins.gather.Goals as goal

pub returns-then-n-length-clause-gathers : goal.returns-then-n-length-clause-gathers
returns-then-n-length-clause-gathers g c = λ fewer.
    absurd (let more = sum_more 0 c.args.c.now c.node.result.now c.node.ensures in omega arith)

pub returns-in-Ok-clause-there : goal.returns-in-Ok-clause-there
returns-in-Ok-clause-there g c = λ has.
    absurd (let more = sum_more 0 c.args.c.now c.node.result.now c.node.ensures in omega arith)

pub returns-in-Ok-clause-bytes : goal.returns-in-Ok-clause-bytes
returns-in-Ok-clause-bytes g c =
    folds_bytes {O = g.row.O.Denot} c.args.mint.now c.fold_front.new.mint c.args.c.now _ _ c.fold_front.new.c (sym (take-append-drop c.fewest_with-k.result c.args.c.now)) c.in-Ok.ensures.node

pub returns-in-Ok-clause-totals : goal.returns-in-Ok-clause-totals
returns-in-Ok-clause-totals g c =
    folds_totals {O = g.row.O.Denot} c.args.mint.now c.fold_front.new.mint c.args.c.now _ _ c.fold_front.new.c c.in-Ok.backs
    (sym (take-append-drop c.fewest_with-k.result c.args.c.now)) c.in-Ok.ensures.node c.in-Ok.ensures.totals
