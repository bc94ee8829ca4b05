use Rattle.std.proofs.Common.{arith, ap, ◌∙◌, ◌++◌, ◌∷◌, [], ◌-◌}
use Rattle.frame_mark.specs.declared.mark.Mark.TheVariants.{Fault, Frame}
use Rattle.frame_rule.specs.Hauls.{nodes_if}
use Rattle.frame_mark.proofs.Ends.{ends_closed, ends_fault, ends_frame, last_kept, open_fed}
use Rattle.frame_mark.proofs.Stakes.{ended_totals, last_totals}
use Rattle.frame_mark.proofs.marking.Marking.mark_end.Goals as goal

pub overflow_sub-at : goal.overflow_sub-at
overflow_sub-at g c = open_fed g.S.Scanner.codec_of g.S.Scanner.saw g.met.S.Scanner.checked c.args.self.now _ c.requires.stands

pub returns-then-self-eq0-clause-ended : goal.returns-then-self-eq0-clause-ended
returns-then-self-eq0-clause-ended g c =
    ends_closed g.S.Scanner.codec_of g.S.Scanner.saw g.met.S.Scanner.checked c.args.self.now (nodes_if c.args.kept.now) _ (omega (arith, c.if-self-eq0.true))
    (ap (λ v. v.items) c.give_kept.ensures.given.marks ∙ c.reserve-2.ensures.items ∙ c.requires.none)

pub returns-then-self-eq0-clause-totals : goal.returns-then-self-eq0-clause-totals
returns-then-self-eq0-clause-totals g c =
    ended_totals c.args.kept.now _ c.args.finds.now.back.items c.reserve.new.self.items c.give_kept.new.finds.back.items c.give_kept.ensures.kept c.reserve.ensures.items c.give_kept.ensures.given.totals

pub returns-in-Some-clause-ended : goal.returns-in-Some-clause-ended
returns-in-Some-clause-ended g c =
    ends_fault g.S.Scanner.codec_of g.S.Scanner.saw g.met.S.Scanner.checked c.args.self.now (nodes_if c.args.kept.now) c.in-Some.kind _ (omega (arith, c.if-self-eq0.false)) c.in-Some.ensures
    (c.push_reserved.ensures.items
    ∙ ap (λ w. w ++ Fault (c.args.self.now.fed - c.args.self.now.unread) c.in-Some.kind ∷ []) (ap (λ v. v.items) c.give_kept-in-Some.ensures.given.marks ∙ c.reserve-2.ensures.items ∙ c.requires.none))

pub returns-in-Some-clause-totals : goal.returns-in-Some-clause-totals
returns-in-Some-clause-totals g c =
    ended_totals c.args.kept.now _ c.args.finds.now.back.items c.reserve.new.self.items c.give_kept-in-Some.new.finds.back.items c.give_kept-in-Some.ensures.kept c.reserve.ensures.items c.give_kept-in-Some.ensures.given.totals

pub last_frame-requires : goal.last_frame-requires
last_frame-requires g c = record { some = last_kept g.S.Scanner.codec_of g.S.Scanner.saw g.met.S.Scanner.checked c.args.self.now _ c.requires.stands (omega (arith, c.if-self-eq0.false)) c.in-None.ensures }

pub returns-in-None-clause-ended : goal.returns-in-None-clause-ended
returns-in-None-clause-ended g c =
    ends_frame g.S.Scanner.codec_of g.S.Scanner.saw g.met.S.Scanner.checked c.args.self.now (nodes_if c.args.kept.now) c.last_frame.result _ c.requires.stands (omega (arith, c.if-self-eq0.false)) c.in-None.ensures
    (c.push_reserved-in-None.ensures.items
    ∙ ap (λ w. w ++ Frame (c.args.self.now.fed - c.args.self.now.unread) (c.args.self.now.fed - c.args.self.now.unread) c.args.self.now.fed ∷ []) (c.reserve-2.ensures.items ∙ c.requires.none))
    c.last_frame.ensures.frames

pub returns-in-None-clause-totals : goal.returns-in-None-clause-totals
returns-in-None-clause-totals g c =
    last_totals c.args.kept.now _ _ c.args.finds.now.back.items c.reserve.new.self.items c.last_frame.ensures.kept c.reserve.ensures.items c.last_frame.ensures.chain
