use Rattle.std.proofs.Common.{◌-◌, ◌&&◌, length, drop, nat_eq, sym, ap, ◌∙◌}
use Rattle.std.proofs.lemmas.List.{take_rest}
use Rattle.std.specs.Cmp.Lexicographic.{pointwise}
use Rattle.frame_delim.proofs.Ends.{ends_across}
use Rattle.frame_delim.proofs.find.ends_here.Goals as goal

pub returns-then-ends_with : goal.returns-then-ends_with
returns-then-ends_with c =
    let m = c.args.mark.now in
    let f = c.args.front.now in
    c.eq.ensures ∙ ap (λ w. pointwise nat_eq w f) (take_rest m (length m - length f))
    ∙ ap (λ b. b && pointwise nat_eq (drop (length m - length f) m) f) (sym c.if-ends_with.true ∙ c.ends_with-2.ensures.value)
    ∙ sym (ends_across c.args.tail.now f m c.if-mark-front.false c.if-split-tail.false)

pub returns-else-ends_with : goal.returns-else-ends_with
returns-else-ends_with c =
    let m = c.args.mark.now in
    let f = c.args.front.now in
    c.if-ends_with.false
    ∙ ap (λ b. b && pointwise nat_eq (drop (length m - length f) m) f) (sym c.if-ends_with.false ∙ c.ends_with-2.ensures.value)
    ∙ sym (ends_across c.args.tail.now f m c.if-mark-front.false c.if-split-tail.false)
