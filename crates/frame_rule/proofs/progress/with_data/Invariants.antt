use Rattle.std.proofs.Common.{length, ◌-◌, ◌≤◌, ◌≡◌, take, drop}
use Rattle.buffer_model.specs.Segment.{bytes_of}
use Rattle.frame_rule.proofs.progress.with_data.Given as goal

abbrev pub invariant-empties : goal.invariant-empties
invariant-empties l = record {
  within : l.i ≤ length l.chain;
  from : l.fn.i ≤ l.i;
  none : bytes_of (take l.i l.chain) ≡ bytes_of (take l.fn.i l.chain);
  rest : bytes_of (drop l.i l.chain) ≡ bytes_of (drop l.fn.i l.chain);
}

abbrev pub decreases-empties : goal.decreases-empties
decreases-empties l = length l.chain - l.i
