use Rattle.std.proofs.Common.{sym, ◌∙◌}
use Rattle.frame_rule.proofs.Intakes.{given_totals}
use Rattle.frame_rule.proofs.feeding.give_up.Goals as goal

pub returns-in-Ok-clause-totals : goal.returns-in-Ok-clause-totals
returns-in-Ok-clause-totals c =
    given_totals c.args.kept.now c.take.new.self c.in-Some.chain c.args.haul.now c.give_back.new.haul (sym c.take.ensures.value ∙ c.in-Some.is) c.take.ensures.after
    c.in-Ok.ensures.moved.totals
