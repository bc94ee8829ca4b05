use Rattle.std.proofs.Common.{Option, ap, subst, ◌∙◌}
use Rattle.std.specs.Prelude.{IfSome}
use Rattle.buffer_model.specs.Segment.{Segment}
use Rattle.iobuf_chain.specs.Shares.{SharesFirst}
use Rattle.iobuf_chain.proofs.FirstCuts.{share_keeps_totals}
use Rattle.iobuf_chain.proofs.chain.ChainOf.share_front.Goals as goal

pub returns-clause-totals : goal.returns-clause-totals
returns-clause-totals g c =
    let Q : Option (Segment g.row.O.Denot) → Type 0 = λ o. IfSome o (λ w. SharesFirst c.self.inside.nodes c.share_first.new.self w) in
    let s : SharesFirst c.self.inside.nodes c.share_first.new.self c.in-Some.share = subst Q c.in-Some.is c.in_ok-share.ensures.share in
    share_keeps_totals c.args.k c.self.inside.nodes c.args.self.now c.share_first.new.self c.trim_first_start.new.self c.of.result c.in-Some.share c.trim_start.new.self
    c.self.view_is s c.trim_first_start.ensures c.of.ensures
    (ap (λ (t : Segment g.row.O.Denot). t.share) c.trim_start.ensures.window ∙ ap (λ (t : Segment g.row.O.Denot). t.share) c.trim_end-2.ensures.window ∙ ap (λ (t : Segment g.row.O.Denot). t.share) c.trim_end.ensures.window)
