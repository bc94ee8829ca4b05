use Rattle.std.proofs.Common.{refl, arith, ap, sym, ◌∙◌, ◌++◌, ◌∷◌, [], ◌-◌}
use Rattle.buffer_model.proofs.Totals.{keeps_then, keeps_equal}
use Rattle.iobuf_chain.specs.Accounts.{held_by}
use Rattle.frame_rule.specs.declared.haul.Haul.{Haul}
use Rattle.frame_rule.specs.declared.unit.FrameUnit.TheVariants.{Fault}
use Rattle.frame_rule.specs.Hauls.{nodes_if}
use Rattle.frame_rule.proofs.Moving.{fault_hauled, same_hauled}
use Rattle.frame_rule.proofs.Intakes.{ends_frame, fault_totals, last_kept, on_ok, shares_last}
use Rattle.frame_rule.proofs.Passing.{open_fed}
use Rattle.frame_rule.proofs.Tight.{adds_unit}
use Rattle.frame_rule.proofs.progress.Progress.finish.Goals as goal

pub overflow_sub-at : goal.overflow_sub-at
overflow_sub-at g c = open_fed g.S.Scanner.codec_of g.S.Scanner.saw g.met.S.Scanner.checked c.args.self.now _ c.requires.stands

pub give_last-requires : goal.give_last-requires
give_last-requires g c = last_kept g.S.Scanner.codec_of g.S.Scanner.saw g.met.S.Scanner.checked c.args.self.now _ c.requires.stands (omega (arith, c.if-self-eq0.false)) c.in-None.ensures

pub returns-in-None-clause-ended : goal.returns-in-None-clause-ended
returns-in-None-clause-ended g c =
    on_ok c.give_last.result c.give_last.ensures.unit (λ more. ends_frame g.S.Scanner.codec_of g.S.Scanner.saw g.met.S.Scanner.checked c.args.self.now _ _ _ (omega (arith, c.if-self-eq0.false)) c.in-None.ensures more)

pub returns-in-None-clause-shares : goal.returns-in-None-clause-shares
returns-in-None-clause-shares g c heavy =
    on_ok c.give_last.result c.give_last.ensures.unit (λ more. shares_last _ _ _ _ heavy more)

pub returns-in_ok-give_up-in-Some-clause-totals : goal.returns-in_ok-give_up-in-Some-clause-totals
returns-in_ok-give_up-in-Some-clause-totals g c =
    let given : Haul = c.give_up-in-Some.new.haul in
    let now : Haul = record { units = c.push_reserved.new.self; back = given.back } in
    let first : Haul = record { units = c.reserve.new.self; back = c.args.haul.now.back } in
    fault_totals _ (nodes_if c.give_up-in-Some.new.kept) given now
    (keeps_then _ _ _ (keeps_equal _ _ (ap (λ w. held_by (nodes_if c.args.kept.now) ++ w) (sym (same_hauled c.args.haul.now first (c.reserve.ensures.items, refl)))))
    c.in_ok-give_up-in-Some.ensures.totals)
    (fault_hauled given now (Fault (c.args.self.now.fed - c.args.self.now.unread) c.in-Some.kind) refl c.push_reserved.ensures.items refl)

pub returns-in_ok-give_up-in-Some-clause-tight : goal.returns-in_ok-give_up-in-Some-clause-tight
returns-in_ok-give_up-in-Some-clause-tight g c tight =
    let same = ap (λ v. v.items) c.in_ok-give_up-in-Some.ensures.units ∙ c.reserve.ensures.items in
    adds_unit _ _ (Fault (c.args.self.now.fed - c.args.self.now.unread) c.in-Some.kind) tt
    (c.push_reserved.ensures.items ∙ ap (λ w. w ++ Fault (c.args.self.now.fed - c.args.self.now.unread) c.in-Some.kind ∷ []) same)
