use Rattle.std.proofs.Common.{refl, ap, sym, ◌∙◌, ◌++◌, ◌∷◌, []}
use Rattle.frame_rule.specs.declared.haul.Haul.{Haul}
use Rattle.frame_rule.specs.declared.unit.FrameUnit.TheVariants.{Frame}
use Rattle.frame_rule.proofs.Moving.{framed_hauled}
use Rattle.frame_rule.proofs.Intakes.{given_totals}
use Rattle.frame_rule.proofs.feeding.give_last.Goals as goal

pub returns-clause-totals : goal.returns-clause-totals
returns-clause-totals c =
    let now : Haul = record { units = c.push_reserved.new.self; back = c.args.haul.now.back } in
    given_totals c.args.kept.now c.take.new.self c.in-Some.chain c.args.haul.now now (sym c.take.ensures.value ∙ c.in-Some.is) c.take.ensures.after
    (framed_hauled c.args.haul.now now c.args.at c.in-Some.chain (c.push_reserved.ensures.items ∙ ap (λ w. w ++ Frame c.args.at c.in-Some.chain ∷ []) c.reserve.ensures.items) refl)
