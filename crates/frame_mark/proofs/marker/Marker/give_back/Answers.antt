use Rattle.std.proofs.Common.{◌≡◌, List, ap, subst, ◌∙◌}
use Rattle.std.specs.Option.{IfSome}
use Rattle.storage.specs.declared.release.NoOwner.{NoOwner}
use Rattle.storage.specs.Back.{stakes_in}
use Rattle.buffer_model.specs.Segment.{Segment}
use Rattle.buffer_model.specs.Stake.{KeepsTotals}
use Rattle.iobuf_chain.specs.Accounts.{held_by}
use Rattle.frame_rule.specs.Framing.{Framing}
use Rattle.frame_rule.specs.Hauls.{all_kept}
use Rattle.frame_mark.proofs.Keeping.{kept_as}
use Rattle.frame_mark.proofs.marker.Marker.give_back.Goals as goal

pub returns-clause-totals : goal.returns-clause-totals
returns-clause-totals g c =
    let all : all_kept c.take.result c.take-2.result ≡ c.args.self.now.kept =
    kept_as c.take.result c.take-2.result c.self.inside.kept c.self.inside.refused c.take.ensures.value c.take-2.ensures.value
    ∙ ap (λ (d : Framing g.row.S.Denot NoOwner). d.kept) c.self.view_is in
    let P : List (Segment NoOwner) → Type 0 = λ w. IfSome c.give_all_back.result (λ backs. KeepsTotals (held_by w) (stakes_in backs)) in
    subst P all c.give_all_back.ensures.totals
