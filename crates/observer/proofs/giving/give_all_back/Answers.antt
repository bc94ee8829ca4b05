use Rattle.std.proofs.Common.{◌∷◌, [], ◌++◌, ap, sym, ◌∙◌, append_assoc}
use Rattle.std.proofs.lemmas.Grind.{common_steps}
use Rattle.std.proofs.Common.{arith}
use Rattle.buffer_model.proofs.Totals.{keeps_equal, keeps_then}
use Rattle.iobuf_chain.specs.Accounts.{held_by}
use Rattle.observer.proofs.Returned.{gives_more}
use Rattle.observer.proofs.giving.give_all_back.Goals as goal

pub batches-preserved : goal.batches-preserved
batches-preserved c =
    let gone = c.batches.invariant.given.0 in
    let b = c.in-Some.batch in record {
      given = (
        gone ++ b ∷ [],
        c.batches.invariant.given.1 ∙ ap (λ bs. gone ++ bs) c.in-Some.ensures.items ∙ sym (append_assoc gone (b ∷ []) c.pop_front.new.self.items),
        gives_more gone b _ _ c.give_back.result c.batches.invariant.given.2
            (keeps_then _ _ _ (keeps_equal _ _ (ap held_by (sym c.into_chain.ensures))) c.give_back.ensures.totals) c.push_back_reserved.ensures.items,
      );
      room = grind (arith, common_steps);
      batches = c.in-Some.ensures.capacity ∙ c.batches.invariant.batches;
      returns = c.push_back_reserved.ensures.capacity ∙ c.batches.invariant.returns;
    }
