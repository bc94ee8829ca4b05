use Rattle.std.proofs.Common.{◌≡◌, ◌+◌, ◌^◌, ◌<◌, drop, length}
use Rattle.observer.specs.Drains.{saturated}
use Rattle.observer.specs.Items.{frames_in}
use Rattle.observer.proofs.counting.all_frames.Given as goal

abbrev pub invariant-batches : goal.invariant-batches
invariant-batches l = record {
  so : saturated (length (frames_in l.batches.items)) ≡ saturated (l.count + length (frames_in (drop l.i l.batches.items)));
  fits : l.count < 2 ^ 64;
}
