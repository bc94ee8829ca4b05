use Rattle.std.proofs.Common.{ap, sym}
use Rattle.buffer_model.proofs.Totals.{keeps_equal, keeps_then}
use Rattle.storage.specs.Back.{stakes_in}
use Rattle.iobuf_chain.proofs.chain.ChainOf.give_back.Goals as goal

pub returns-clause-totals : goal.returns-clause-totals
returns-clause-totals g c = keeps_then _ _ _ c.into_backs-first.ensures.totals (keeps_equal _ _ (ap (λ bs. stakes_in bs) (sym c.from_parts.ensures)))
