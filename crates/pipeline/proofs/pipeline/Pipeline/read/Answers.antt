use Rattle.std.proofs.Common.{◌≡◌, ◌+◌, ◌++◌, length, sym, subst, ◌∙◌}
use Rattle.buffer_model.specs.Stake.{KeepsTotalsBeside}
use Rattle.iobuf_chain.specs.Accounts.{held_by}
use Rattle.iobuf_chain.specs.Copies.{CopiesNoData}
use Rattle.iobuf_chain.specs.Lists.{Each}
use Rattle.pipeline.specs.Meanings.{IsCut, IsPlain}
use Rattle.pipeline.specs.Nodes.{listed, stakes_back}
use Rattle.pipeline.specs.Stages.{Answer, back_in, frame_in, meanings}
use Rattle.pipeline.proofs.Reading.{whole_count, whole_totals}
use Rattle.pipeline.proofs.Thinning.{thins_copies}
use Rattle.pipeline.proofs.pipeline.Pipeline.read.Goals as goal
use Rattle.pipeline.proofs.pipeline.Pipeline.read.Goals.{in-Ok, in-Err}

pub returns-clause-totals : goal.returns-clause-totals
returns-clause-totals g c = λ plain.
    let same : c.args.self.now ≡ c.deref_mut.result.now = sym (c.deref_mut.ensures.value ∙ c.self.view_is) in
    let P : Answer → Type 0 = λ r. KeepsTotalsBeside c.args.mint.now c.read_all.new.mint (held_by c.args.frame) (held_by (frame_in r) ++ stakes_back (back_in r)) in
    let all = subst (λ s. Each IsPlain (meanings g.H.Handler.machine s)) same plain in
    elim c.match-read_all.branch [
      | in-Ok w ↦ subst P (sym w.result-is) (whole_totals _ _ _ _ _ _ _ c.new-backs.ensures.items (w.in-Ok.ensures.works all) w.returned.ensures)
      | in-Err w ↦ subst P (sym w.result-is) (whole_totals _ _ _ _ _ _ _ c.new-backs.ensures.items (w.in-Err.ensures.works all) w.returned-in-Err.ensures)
    ]

pub returns-clause-whole : goal.returns-clause-whole
returns-clause-whole g c = λ plain whole.
    let same : c.args.self.now ≡ c.deref_mut.result.now = sym (c.deref_mut.ensures.value ∙ c.self.view_is) in
    let P : Answer → Type 0 = λ r. length c.args.frame ≡ length (frame_in r) + length (listed (back_in r)) in
    let all = subst (λ s. Each IsPlain (meanings g.H.Handler.machine s)) same plain in
    elim c.match-read_all.branch [
      | in-Ok w ↦ subst P (sym w.result-is) (whole_count _ _ _ _ _ _ _ c.new-backs.ensures.items (w.in-Ok.ensures.works all) w.returned.ensures whole)
      | in-Err w ↦ subst P (sym w.result-is) (whole_count _ _ _ _ _ _ _ c.new-backs.ensures.items (w.in-Err.ensures.works all) w.returned-in-Err.ensures whole)
    ]

pub returns-clause-copies : goal.returns-clause-copies
returns-clause-copies g c = λ cuts.
    let same : c.args.self.now ≡ c.deref_mut.result.now = sym (c.deref_mut.ensures.value ∙ c.self.view_is) in
    let P : Answer → Type 0 = λ r. CopiesNoData c.args.frame (frame_in r) in
    let all = subst (λ s. Each IsCut (meanings g.H.Handler.machine s)) same cuts in
    elim c.match-read_all.branch [
      | in-Ok w ↦ subst P (sym w.result-is) (thins_copies _ _ _ (w.in-Ok.ensures.sheds all))
      | in-Err w ↦ subst P (sym w.result-is) (thins_copies _ _ _ (w.in-Err.ensures.sheds all))
    ]
