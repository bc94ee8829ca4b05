use Rattle.std.proofs.Common.{◌≡◌, refl, ap, arith}
use Rattle.buffer_model.proofs.Minted.{same_on, on_then}
use Rattle.pipeline.specs.Meanings.{IsCut, IsPlain}
use Rattle.pipeline.specs.Stages.{frame_of}
use Rattle.pipeline.proofs.Steps.{passes_none, passes_more, passes_end, passes_all, passes_refused, passes_each}
use Rattle.pipeline.proofs.Working.{works_same, works_then}
use Rattle.pipeline.proofs.Thinning.{sheds_self, sheds_then, thins_length}
use Rattle.pipeline.proofs.Reading.{no_skip, no_fail, said_as, at_stage, set_stage, stages_length}
use Rattle.pipeline.proofs.pipeline.read_all.Goals as goal

pub stages-init : goal.stages-init
stages-init g c = record {
  passes = passes_none _ _;
  mint = same_on _ _ refl;
  works = λ plain. works_same _ _ _;
  sheds = λ cut. sheds_self _;
}

pub returns-in-Ok-Skip-clause-steps : goal.returns-in-Ok-Skip-clause-steps
returns-in-Ok-Skip-clause-steps g c =
    passes_end _ _ _ _ _ _ _ _ _ c.stages.invariant.passes (at_stage g.H.Handler.machine c.stages.stages c.stages.i c.index-stages-i.result (let low = c.stages-test.true in let same = c.stages.auto.stages in omega (arith, low, same)))
    (said_as _ _ _ c.in-Ok-Skip.field-0-is c.in-Ok-Skip.ensures.gives) (λ z e. no_skip _ z e) c.in-Ok-Skip.ensures.later
    (set_stage g.H.Handler.machine c.stages.stages c.stages.i c.read_stage.new.stage)

pub returns-in-Ok-Fail-clause-steps : goal.returns-in-Ok-Fail-clause-steps
returns-in-Ok-Fail-clause-steps g c =
    passes_end _ _ _ _ _ _ _ _ _ c.stages.invariant.passes (at_stage g.H.Handler.machine c.stages.stages c.stages.i c.index-stages-i.result (let low = c.stages-test.true in let same = c.stages.auto.stages in omega (arith, low, same)))
    (said_as _ _ _ c.in-Ok-Fail.field-0-is c.in-Ok-Fail.ensures.gives) (λ z e. no_fail _ _ z e) c.in-Ok-Fail.ensures.later
    (set_stage g.H.Handler.machine c.stages.stages c.stages.i c.read_stage.new.stage)

pub returns-in-Err-clause-steps : goal.returns-in-Err-clause-steps
returns-in-Err-clause-steps g c =
    passes_refused _ _ _ _ _ _ _ _ _ c.stages.invariant.passes (at_stage g.H.Handler.machine c.stages.stages c.stages.i c.index-stages-i.result (let low = c.stages-test.true in let same = c.stages.auto.stages in omega (arith, low, same)))
    c.in-Err.ensures.gives c.in-Err.ensures.stays (set_stage g.H.Handler.machine c.stages.stages c.stages.i c.read_stage.new.stage)

pub returns-in-Err-clause-memory : goal.returns-in-Err-clause-memory
returns-in-Err-clause-memory g c = λ cuts one.
    c.in-Err.ensures.memory
    (passes_each IsCut _ _ _ _ _ _ c.stages.invariant.passes (at_stage g.H.Handler.machine c.stages.stages c.stages.i c.index-stages-i.result (let low = c.stages-test.true in let same = c.stages.auto.stages in omega (arith, low, same))) cuts)
    (let fewer = thins_length _ _ _ (c.stages.invariant.sheds cuts) in let some = c.elements-some.ensures.some in let count = c.elements-some.ensures.count in
    omega (arith, fewer, some, count, one))

pub returns-in-Err-clause-works : goal.returns-in-Err-clause-works
returns-in-Err-clause-works g c = λ plain.
    works_then _ _ _ _ _ _ _ _ _ (c.stages.invariant.works plain)
    (c.in-Err.ensures.works
    (passes_each IsPlain _ _ _ _ _ _ c.stages.invariant.passes (at_stage g.H.Handler.machine c.stages.stages c.stages.i c.index-stages-i.result (let low = c.stages-test.true in let same = c.stages.auto.stages in omega (arith, low, same))) plain))

pub returns-in-Err-clause-sheds : goal.returns-in-Err-clause-sheds
returns-in-Err-clause-sheds g c = λ cuts.
    sheds_then _ _ _ (c.stages.invariant.sheds cuts)
    (c.in-Err.ensures.sheds
    (passes_each IsCut _ _ _ _ _ _ c.stages.invariant.passes (at_stage g.H.Handler.machine c.stages.stages c.stages.i c.index-stages-i.result (let low = c.stages-test.true in let same = c.stages.auto.stages in omega (arith, low, same))) cuts))

pub stages-preserved : goal.stages-preserved
stages-preserved g c =
    let frame : frame_of c.in-Ok-Pass.field-0 ≡ c.in-Ok-Pass.next = ap (λ s. frame_of s) c.in-Ok-Pass.field-0-is in
    let there = at_stage g.H.Handler.machine c.stages.stages c.stages.i c.index-stages-i.result (let low = c.stages-test.true in let same = c.stages.auto.stages in omega (arith, low, same)) in
    record {
      passes =
          passes_more _ _ _ _ _ _ _ _ _ c.stages.invariant.passes there (said_as _ _ _ c.in-Ok-Pass.field-0-is c.in-Ok-Pass.ensures.gives)
          c.in-Ok-Pass.ensures.later (set_stage g.H.Handler.machine c.stages.stages c.stages.i c.read_stage.new.stage);
      mint = on_then _ _ _ c.stages.invariant.mint c.in-Ok-Pass.ensures.mint;
      works = λ plain. works_then _ _ _ _ _ _ _ _ _ (c.stages.invariant.works plain)
          (rw frame at (c.in-Ok-Pass.ensures.works (passes_each IsPlain _ _ _ _ _ _ c.stages.invariant.passes there plain)));
      sheds = λ cuts. sheds_then _ _ _ (c.stages.invariant.sheds cuts)
          (rw frame at (c.in-Ok-Pass.ensures.sheds (passes_each IsCut _ _ _ _ _ _ c.stages.invariant.passes there cuts)));
    }

pub returns-clause-steps : goal.returns-clause-steps
returns-clause-steps g c =
    passes_all _ _ _ _ _ c.stages.invariant.passes
    (let size = stages_length g.H.Handler.machine c.args.stages.now in let high = c.stages-test.false in omega (arith, size, high))

pub returns-in-Ok-Skip-clause-mint : goal.returns-in-Ok-Skip-clause-mint
returns-in-Ok-Skip-clause-mint g c = on_then _ _ _ c.stages.invariant.mint c.in-Ok-Skip.ensures.mint

pub returns-in-Ok-Skip-clause-works : goal.returns-in-Ok-Skip-clause-works
returns-in-Ok-Skip-clause-works g c = λ plain.
    let frame : frame_of c.in-Ok-Skip.field-0 ≡ c.in-Ok-Skip.skipped = ap (λ s. frame_of s) c.in-Ok-Skip.field-0-is in
    let there = at_stage g.H.Handler.machine c.stages.stages c.stages.i c.index-stages-i.result (let low = c.stages-test.true in let same = c.stages.auto.stages in omega (arith, low, same)) in
    works_then _ _ _ _ _ _ _ _ _ (c.stages.invariant.works plain)
    (rw frame at (c.in-Ok-Skip.ensures.works (passes_each IsPlain _ _ _ _ _ _ c.stages.invariant.passes there plain)))

pub returns-in-Ok-Skip-clause-sheds : goal.returns-in-Ok-Skip-clause-sheds
returns-in-Ok-Skip-clause-sheds g c = λ cuts.
    let frame : frame_of c.in-Ok-Skip.field-0 ≡ c.in-Ok-Skip.skipped = ap (λ s. frame_of s) c.in-Ok-Skip.field-0-is in
    let there = at_stage g.H.Handler.machine c.stages.stages c.stages.i c.index-stages-i.result (let low = c.stages-test.true in let same = c.stages.auto.stages in omega (arith, low, same)) in
    sheds_then _ _ _ (c.stages.invariant.sheds cuts)
    (rw frame at (c.in-Ok-Skip.ensures.sheds (passes_each IsCut _ _ _ _ _ _ c.stages.invariant.passes there cuts)))

pub returns-in-Ok-Fail-clause-mint : goal.returns-in-Ok-Fail-clause-mint
returns-in-Ok-Fail-clause-mint g c = on_then _ _ _ c.stages.invariant.mint c.in-Ok-Fail.ensures.mint

pub returns-in-Ok-Fail-clause-works : goal.returns-in-Ok-Fail-clause-works
returns-in-Ok-Fail-clause-works g c = λ plain.
    let frame : frame_of c.in-Ok-Fail.field-0 ≡ c.in-Ok-Fail.failed = ap (λ s. frame_of s) c.in-Ok-Fail.field-0-is in
    let there = at_stage g.H.Handler.machine c.stages.stages c.stages.i c.index-stages-i.result (let low = c.stages-test.true in let same = c.stages.auto.stages in omega (arith, low, same)) in
    works_then _ _ _ _ _ _ _ _ _ (c.stages.invariant.works plain)
    (rw frame at (c.in-Ok-Fail.ensures.works (passes_each IsPlain _ _ _ _ _ _ c.stages.invariant.passes there plain)))

pub returns-in-Ok-Fail-clause-sheds : goal.returns-in-Ok-Fail-clause-sheds
returns-in-Ok-Fail-clause-sheds g c = λ cuts.
    let frame : frame_of c.in-Ok-Fail.field-0 ≡ c.in-Ok-Fail.failed = ap (λ s. frame_of s) c.in-Ok-Fail.field-0-is in
    let there = at_stage g.H.Handler.machine c.stages.stages c.stages.i c.index-stages-i.result (let low = c.stages-test.true in let same = c.stages.auto.stages in omega (arith, low, same)) in
    sheds_then _ _ _ (c.stages.invariant.sheds cuts)
    (rw frame at (c.in-Ok-Fail.ensures.sheds (passes_each IsCut _ _ _ _ _ _ c.stages.invariant.passes there cuts)))

pub returns-in-Err-clause-mint : goal.returns-in-Err-clause-mint
returns-in-Err-clause-mint g c = on_then _ _ _ c.stages.invariant.mint c.in-Err.ensures.mint
