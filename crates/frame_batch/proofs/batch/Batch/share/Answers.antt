use Rattle.std.proofs.Common.{◌+◌, List, refl, sym, ap, subst}
use Rattle.storage.specs.declared.release.NoOwner.{NoOwner}
use Rattle.buffer_model.specs.Segment.{Segment}
use Rattle.iobuf_chain.specs.Copies.{HasWeight, WithData}
use Rattle.iobuf_chain.proofs.Rejoined.{regains_each}
use Rattle.frame_batch.specs.Batches.{Batched}
use Rattle.frame_batch.proofs.batch.Batch.share.Goals as goal

pub returns-in-Err-clause-refused : goal.returns-in-Err-clause-refused
returns-in-Err-clause-refused c = regains_each _ _ refl

pub returns-clause-left : goal.returns-clause-left
returns-clause-left c = λ k few had.
    let P : List (Segment NoOwner) → Type 0 = λ ss. WithData (HasWeight (k + 2)) ss in
    c.in-Ok-share_all.ensures.left k few (subst P (sym (ap (λ (b : Batched). b.chain) c.self.view_is)) had)
