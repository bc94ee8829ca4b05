use Rattle.std.proofs.Common.{arith, ap, ◌∙◌}
use Rattle.frame_mark.proofs.Listed.{windows_none, windows_some}
use Rattle.frame_mark.proofs.windows.windows.Goals.{in-Some+in_ok-push, in_default}
use Rattle.frame_mark.proofs.windows.windows.Goals as goal

pub marks-preserved : goal.marks-preserved
marks-preserved c = record {
  within = omega (arith, c.marks-test.true);
  list = elim c.match-window.branch [
    | in-Some+in_ok-push w ↦ windows_some c.args.base c.marks.i c.args.marks.now _ _ _ _ _ c.marks-test.true c.marks.invariant.list c.window.ensures w.in-Some.is (ap (λ v. v.items) w.windows-is ∙ w.in_ok-push.ensures.items)
    | in_default w ↦ windows_none c.args.base c.marks.i c.args.marks.now _ _ _ _ c.marks-test.true c.marks.invariant.list c.window.ensures w.in_default.not-Some (ap (λ v. v.items) w.windows-is)
  ];
}
