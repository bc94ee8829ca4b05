use Rattle.std.proofs.Common.{◌≡◌, ◌∷◌, [], ◌++◌, ◌∙◌, sym, ap}
use Rattle.buffer_model.specs.Stake.{held}
use Rattle.buffer_model.proofs.Totals.{keeps_equal, keeps_then, keeps-append}
use Rattle.storage.specs.Back.{stakes_of, stakes_in}
use Rattle.iobuf_chain.specs.Accounts.{held_by}
use Rattle.iobuf_chain.proofs.chain.ChainOf.into_backs.Goals as goal

pub returns-clause-totals : goal.returns-clause-totals
returns-clause-totals g c =
    keeps_then _ _ _ (keeps_equal _ _ (ap (λ xs. held_by xs) (sym c.self.view_is ∙ sym c.into_parts-first.ensures)))
    (λ n. keeps-append n (held c.into_parts-first.result.0.share ∷ []) (held_by c.into_parts-first.result.1.items)
    (stakes_of c.give_back-back.result) (stakes_in c.give_rest_back.new.backs.items)
    (c.give_back-back.ensures.totals n) (c.give_rest_back.ensures.totals n))
