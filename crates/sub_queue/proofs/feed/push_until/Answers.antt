use Rattle.std.proofs.Common.{ap, ◌∙◌}
use Rattle.sub_queue.proofs.Moves.{sends}
use Rattle.sub_queue.proofs.feed.push_until.Goals as goal

pub push_as-requires-clause-rule : goal.push_as-requires-clause-rule
push_as-requires-clause-rule g c =
    (sends _ _ _ _ (ap (λ v. v.feeds) (c.tries.invariant.same ∙ c.requires.role)), λ items views h at. tt)
