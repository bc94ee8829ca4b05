use Rattle.std.proofs.Common.{◌∙◌}
use Rattle.frame_rule.proofs.Moving.{beside_nothing, cuts_none, cuts_whole, heavy_shareable}
use Rattle.frame_rule.proofs.Tight.{splits_tight, tight_as, tight_one}
use Rattle.frame_rule.proofs.cuts.cut_front.Goals as goal

pub returns-then-k-eq0-clause-totals : goal.returns-then-k-eq0-clause-totals
returns-then-k-eq0-clause-totals c = beside_nothing _ _ _ _ c.nothing.ensures

pub returns-then-k-eq0-clause-nodes : goal.returns-then-k-eq0-clause-nodes
returns-then-k-eq0-clause-nodes c = record {
  shares = λ heavy. cuts_none _ _ heavy c.nothing.ensures;
  tight = λ tight. (tight_one _ _ c.nothing.ensures, tight);
}

pub returns-then-k-length-clause-nodes : goal.returns-then-k-length-clause-nodes
returns-then-k-length-clause-nodes c =
    let none = c.replace.ensures.after ∙ c.nothing-then-k-length.ensures in record {
      shares = λ heavy. cuts_whole _ _ _ heavy c.replace.ensures.value none;
      tight = λ tight. (tight_as _ _ c.replace.ensures.value tight, tight_one _ _ none);
    }

pub returns-in-Ok-clause-nodes : goal.returns-in-Ok-clause-nodes
returns-in-Ok-clause-nodes c = record {
  shares = λ heavy.
      let copies = c.in-Ok.ensures.copies (heavy_shareable _ heavy) in
      let weights = c.in-Ok.ensures.heavy heavy in
      record { front_copies = copies.0; rest_copies = copies.1; stout = weights.0; heavy = weights.1 };
  tight = λ tight. splits_tight _ _ _ _ _ _ c.in-Ok.ensures.splits tight;
}
