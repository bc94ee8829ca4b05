use Rattle.std.proofs.Common.{arith, ◌∙◌, ◌≤◌}
use Rattle.iobuf_chain.proofs.ManyShared.{refused_may}
use Rattle.iobuf_chain.proofs.ManyRegained.{up_to_regains}
use Rattle.broadcast_hub.proofs.Feeds.{err_said}
use Rattle.broadcast_hub.proofs.sending.share_out.Goals.{then-whole, else-whole}
use Rattle.broadcast_hub.proofs.sending.share_out.Goals as goal

pub rejoin_all-requires : goal.rejoin_all-requires
rejoin_all-requires c = refused_may _ _ _ _ (err_said _ _ c.if-is_err.ensures.value c.share_up_to.ensures.refused)

pub returns-then-is_err-clause-refused : goal.returns-then-is_err-clause-refused
returns-then-is_err-clause-refused c = (
  c.rejoin_all.ensures.frames ∙ c.share_up_to.ensures.same,
  up_to_regains _ _ _ _ _ (err_said _ _ c.if-is_err.ensures.value c.share_up_to.ensures.refused) c.rejoin_all.ensures.rejoins,
)

pub returns-then-is_err-clause-numbers : goal.returns-then-is_err-clause-numbers
returns-then-is_err-clause-numbers c = c.share_up_to.ensures.numbers c.args.live
    (elim c.if-whole.branch [ then-whole w ↦ (let is = w.shares-is in omega (arith, is)) | else-whole w ↦ (let is = w.shares-is in omega (arith, is)) ])

pub returns-then-whole-2-clause-numbers : goal.returns-then-whole-2-clause-numbers
returns-then-whole-2-clause-numbers c = c.share_up_to.ensures.numbers c.args.live
    (elim c.if-whole.branch [ then-whole w ↦ (let is = w.shares-is in omega (arith, is)) | else-whole w ↦ (let is = w.shares-is in omega (arith, is)) ])

pub returns-clause-numbers : goal.returns-clause-numbers
returns-clause-numbers c = c.share_up_to.ensures.numbers c.args.live
    (elim c.if-whole.branch [ then-whole w ↦ (let is = w.shares-is in omega (arith, is)) | else-whole w ↦ (let is = w.shares-is in omega (arith, is)) ])
