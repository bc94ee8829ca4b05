use Rattle.std.proofs.Common.{List, Some, None, sym, subst}
use Rattle.storage.specs.declared.release.NoOwner.{NoOwner}
use Rattle.storage.specs.Back.{stakes_in}
use Rattle.buffer_model.specs.Segment.{Segment}
use Rattle.buffer_model.specs.Stake.{KeepsTotals}
use Rattle.iobuf_chain.specs.Accounts.{held_by}
use Rattle.frame_mark.proofs.Keeping.{kept_as}
use Rattle.frame_mark.proofs.marker.give_all_back.Goals as goal

pub returns-in-None-Some-clause-totals : goal.returns-in-None-Some-clause-totals
returns-in-None-Some-clause-totals c =
    let P : List (Segment NoOwner) → Type 0 = λ w. KeepsTotals (held_by w) (stakes_in c.give_back.result) in
    subst P (sym (kept_as c.args.kept c.args.refused None (Some c.in-None-Some.piece) c.in-None-Some.is-0 c.in-None-Some.is-1)) c.give_back.ensures.totals

pub returns-in-Some-None-clause-totals : goal.returns-in-Some-None-clause-totals
returns-in-Some-None-clause-totals c =
    let P : List (Segment NoOwner) → Type 0 = λ w. KeepsTotals (held_by w) (stakes_in c.give_back-in-Some-None.result) in
    subst P (sym (kept_as c.args.kept c.args.refused (Some c.in-Some-None.chain) None c.in-Some-None.is-0 c.in-Some-None.is-1)) c.give_back-in-Some-None.ensures.totals

pub returns-in-Some-Some-clause-totals : goal.returns-in-Some-Some-clause-totals
returns-in-Some-Some-clause-totals c =
    let P : List (Segment NoOwner) → Type 0 = λ w. KeepsTotals (held_by w) (stakes_in c.give_back_with.result) in
    subst P (sym (kept_as c.args.kept c.args.refused (Some c.in-Some-Some.chain) (Some c.in-Some-Some.piece) c.in-Some-Some.is-0 c.in-Some-Some.is-1)) c.give_back_with.ensures.totals
