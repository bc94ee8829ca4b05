use Rattle.std.proofs.Common.{List, ◌∷◌, ◌++◌, sym, subst, ap}
use Rattle.std.specs.List.{AllZip}
use Rattle.buffer_model.specs.Segment.{Segment, hold_of}
use Rattle.buffer_model.proofs.Totals.{keeps_equal, keeps_then}
use Rattle.storage.specs.declared.back.Back.{Back}
use Rattle.storage.specs.Back.{GivesBack, stakes_in}
use Rattle.iobuf_chain.proofs.GivenBack.{totals_both, zip_append}
use Rattle.iobuf_chain.proofs.chain.ChainOf.give_back_with.Goals as goal

pub returns-clause-backs : goal.returns-clause-backs
returns-clause-backs g c =
    let P : List (Back g.row.O.Denot) → Type 0 =
    λ w. AllZip {A = Segment g.row.O.Denot} {B = Back g.row.O.Denot} (λ s b. GivesBack g.O.Release.runs g.O.Release.last (hold_of s) b) (c.args.self ++ c.args.other) w in
    subst P (sym c.from_two.ensures) (zip_append _ c.args.self c.args.other _ _ c.into_backs.ensures.backs c.into_backs-2.ensures.backs)

pub returns-clause-totals : goal.returns-clause-totals
returns-clause-totals g c =
    keeps_then _ _ _ (totals_both c.args.self c.args.other (c.into_backs.result.0 ∷ c.into_backs.result.1.items) (c.into_backs-2.result.0 ∷ c.into_backs-2.result.1.items)
    c.into_backs.ensures.totals c.into_backs-2.ensures.totals)
    (keeps_equal _ _ (ap (λ bs. stakes_in bs) (sym c.from_two.ensures)))
