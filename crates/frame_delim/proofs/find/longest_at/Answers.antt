use Rattle.std.proofs.Common.{◌≡◌, ◌-◌, ◌++◌, Some, slice_get, arith, ap, sym, ◌∙◌}
use Rattle.frame_delim.proofs.Sizes.{longest_here, longest_not_here}
use Rattle.frame_delim.proofs.find.longest_at.Goals as goal

pub loop-i-preserved-then-ends_here : goal.loop-i-preserved-then-ends_here
loop-i-preserved-then-ends_here c =
    let m = c.bytes-mark.result.now in
    let at : slice_get c.args.list.now (c.loop-i.i - 1) ≡ Some m = c.mark.ensures ∙ ap (λ w. Some w) (sym c.bytes-mark.ensures) in
    record {
      within = omega (arith, c.loop-i.invariant.within);
      longest = ap (λ n. Some n) c.longer.ensures
          ∙ longest_here c.args.list.now c.loop-i.i m (c.args.tail.now ++ c.args.front.now) c.loop-i.longest c.loop-i-test.true at (sym c.ends_here.ensures ∙ c.if-ends_here.true) c.loop-i.invariant.longest;
    }

pub loop-i-preserved : goal.loop-i-preserved
loop-i-preserved c =
    let m = c.bytes-mark.result.now in
    let at : slice_get c.args.list.now (c.loop-i.i - 1) ≡ Some m = c.mark.ensures ∙ ap (λ w. Some w) (sym c.bytes-mark.ensures) in
    record {
      within = omega (arith, c.loop-i.invariant.within);
      longest = longest_not_here c.args.list.now c.loop-i.i m (c.args.tail.now ++ c.args.front.now) c.loop-i.longest c.loop-i-test.true at (sym c.ends_here.ensures ∙ c.if-ends_here.false) c.loop-i.invariant.longest;
    }
