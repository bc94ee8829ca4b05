use Rattle.std.proofs.Common.{◌≡◌, [], ◌∷◌, sym, ◌∙◌, arith}
use Rattle.std.proofs.lemmas.List.{append-nil}
use Rattle.chain_unshare.proofs.Joining.{joins_all, folds_totals, totals_of}
use Rattle.chain_unshare.proofs.joins.coalesce.Goals as goal

pub returns-clause-totals : goal.returns-clause-totals
returns-clause-totals g c =
    folds_totals {O = g.row.O.Denot} c.args.mint.now c.join_first.new.mint c.args.c.now c.args.c.now [] c.replace.new.dest c.give_back.result (sym (append-nil c.args.c.now))
    record {
      node = c.in_ok-node.node;
      joins = joins_all _ _ c.elements-count.result c.args.c.now c.in_ok-node.node (omega arith) c.in_ok-node.ensures.node;
      after_is = c.replace.ensures.after ∙ c.of-whole.ensures;
    } (totals_of _ _ c.give_back.result c.replace.ensures.value c.give_back.ensures.totals)
