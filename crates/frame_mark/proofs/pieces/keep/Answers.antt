use Rattle.frame_mark.proofs.Stakes.{none_totals}
use Rattle.frame_mark.proofs.pieces.keep.Goals as goal

pub returns-clause-totals : goal.returns-clause-totals
returns-clause-totals c = none_totals c.args.kept.now _ c.give_up.new.finds.back.items c.requires.none c.give_up.ensures.totals
