use Rattle.std.proofs.Common.{◌+◌, List, sym, ap, subst}
use Rattle.storage.specs.declared.release.NoOwner.{NoOwner}
use Rattle.buffer_model.specs.Segment.{Segment}
use Rattle.iobuf_chain.specs.Copies.{HasWeight, WithData}
use Rattle.frame_batch.specs.Batches.{Batched}
use Rattle.frame_batch.proofs.batch.Batch.cut.Goals as goal

pub returns-clause-left : goal.returns-clause-left
returns-clause-left c = λ n few had.
    let P : List (Segment NoOwner) → Type 0 = λ ss. WithData (HasWeight (n + 1)) ss in
    subst P (sym (ap (λ (b : Batched). b.chain) c.drop_first.ensures)) (c.in-Ok.ensures.left n few had)
