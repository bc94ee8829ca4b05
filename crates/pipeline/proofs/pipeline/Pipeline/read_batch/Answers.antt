use Rattle.std.proofs.Common.{◌≡◌, ◌∙◌, false, true, refl, sym, ap}
use Rattle.std.proofs.lemmas.Bool.{false≢true}
use Rattle.pipeline.specs.Batches.{answers, handed_in, has_upper, nodes_in}
use Rattle.pipeline.specs.Stages.{meanings}
use Rattle.pipeline.proofs.Handing.{kept_self}
use Rattle.pipeline.proofs.Moving.{copies_as, kept_as, moves_from}
use Rattle.pipeline.proofs.Placing.{answered_frames, are_in_as, cuts_no_upper, frames_raised, frames_same}
use Rattle.pipeline.proofs.pipeline.Pipeline.read_batch.Goals as goal

pub returns-in-Err-clause-back : goal.returns-in-Err-clause-back
returns-in-Err-clause-back g c = kept_self c.args.batch.chain

pub returns-in-Err-clause-copies : goal.returns-in-Err-clause-copies
returns-in-Err-clause-copies g c = λ cuts. copies_as c.args.batch.chain c.args.batch.chain refl

pub from_parts-requires : goal.from_parts-requires
from_parts-requires g c =
    are_in_as c.args.batch.chain c.into_parts-chain.result.0 c.in-Ok.windows c.into_parts-chain.ensures.chain c.in-Ok.ensures.within

pub returns-then-not-raises-clause-frames : goal.returns-then-not-raises-clause-frames
returns-then-not-raises-clause-frames g c =
    let low : has_upper (meanings g.H.Handler.machine c.deref.result.now) ≡ false =
    ap (λ ss. has_upper (meanings g.H.Handler.machine ss)) (c.deref.ensures.value ∙ sym c.deref-2.ensures.value) ∙ sym c.if-not-raises.ensures in
    c.from_parts.ensures.frames
    ∙ frames_same (meanings g.H.Handler.machine c.deref.result.now) c.args.batch.chain c.into_parts-chain.result.0 c.in-Ok.windows _
    c.into_parts-chain.ensures.chain low c.in-Ok.ensures.frames
    ∙ ap (λ ss. answers (meanings g.H.Handler.machine ss) c.args.batch.frames) (c.deref.ensures.value ∙ c.self.view_is)

pub returns-then-not-raises-clause-back : goal.returns-then-not-raises-clause-back
returns-then-not-raises-clause-back g c =
    kept_as c.args.batch.chain c.from_parts.result.chain (c.from_parts.ensures.chain ∙ c.into_parts-chain.ensures.chain)

pub returns-then-not-raises-clause-copies : goal.returns-then-not-raises-clause-copies
returns-then-not-raises-clause-copies g c = λ cuts.
    copies_as c.args.batch.chain c.from_parts.result.chain (c.from_parts.ensures.chain ∙ c.into_parts-chain.ensures.chain)

pub raise_batch-requires-clause-new : goal.raise_batch-requires-clause-new
raise_batch-requires-clause-new g c =
    are_in_as c.args.batch.chain c.into_parts-chain.result.0 c.in-Ok.windows c.into_parts-chain.ensures.chain c.in-Ok.ensures.within

pub returns-clause-frames : goal.returns-clause-frames
returns-clause-frames g c =
    let high : has_upper (meanings g.H.Handler.machine c.deref.result.now) ≡ true =
    ap (λ ss. has_upper (meanings g.H.Handler.machine ss)) (c.deref.ensures.value ∙ sym c.deref-2.ensures.value) ∙ sym c.if-not-raises.ensures in
    answered_frames c.raise_batch.result _ (answers (meanings g.H.Handler.machine c.args.self.now) c.args.batch.frames)
    (frames_raised (meanings g.H.Handler.machine c.deref.result.now) c.args.batch.chain c.into_parts-chain.result.0 c.in-Ok.windows _
    c.into_parts-chain.ensures.chain high c.in-Ok.ensures.frames
    ∙ ap (λ ss. answers (meanings g.H.Handler.machine ss) c.args.batch.frames) (c.deref.ensures.value ∙ c.self.view_is))
    c.raise_batch.ensures.frames

-- there is an `Upper`
pub returns-clause-nodes : goal.returns-clause-nodes
returns-clause-nodes g c = λ cuts.
    let high : has_upper (meanings g.H.Handler.machine c.args.self.now) ≡ true =
    ap (λ ss. has_upper (meanings g.H.Handler.machine ss)) (sym (c.deref-2.ensures.value ∙ c.self.view_is)) ∙ sym c.if-not-raises.ensures in
    absurd (false≢true (sym (cuts_no_upper (meanings g.H.Handler.machine c.args.self.now) cuts) ∙ high))

pub returns-clause-none : goal.returns-clause-none
returns-clause-none g c = λ cuts.
    let high : has_upper (meanings g.H.Handler.machine c.args.self.now) ≡ true =
    ap (λ ss. has_upper (meanings g.H.Handler.machine ss)) (sym (c.deref-2.ensures.value ∙ c.self.view_is)) ∙ sym c.if-not-raises.ensures in
    absurd (false≢true (sym (cuts_no_upper (meanings g.H.Handler.machine c.args.self.now) cuts) ∙ high))

pub returns-clause-totals : goal.returns-clause-totals
returns-clause-totals g c =
    (moves_from c.args.mint.now c.raise_batch.new.mint c.args.batch.chain c.into_parts-chain.result.0 (nodes_in c.raise_batch.result)
    (handed_in c.raise_batch.result) c.into_parts-chain.ensures.chain c.raise_batch.ensures.back).totals

pub returns-clause-copies : goal.returns-clause-copies
returns-clause-copies g c = λ cuts.
    let high : has_upper (meanings g.H.Handler.machine c.args.self.now) ≡ true =
    ap (λ ss. has_upper (meanings g.H.Handler.machine ss)) (sym (c.deref-2.ensures.value ∙ c.self.view_is)) ∙ sym c.if-not-raises.ensures in
    absurd (false≢true (sym (cuts_no_upper (meanings g.H.Handler.machine c.args.self.now) cuts) ∙ high))
