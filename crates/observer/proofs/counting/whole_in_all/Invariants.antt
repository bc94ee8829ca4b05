use Rattle.std.proofs.Common.{◌≡◌, ◌+◌, ◌^◌, ◌<◌, drop}
use Rattle.frame_head.specs.Framed.{whole_frames}
use Rattle.observer.specs.Drains.{saturated}
use Rattle.observer.specs.Items.{frames_in}
use Rattle.observer.proofs.counting.whole_in_all.Given as goal

abbrev pub invariant-batches : goal.invariant-batches
invariant-batches l = record {
  so : saturated (whole_frames l.out (frames_in l.batches.items) l.n) ≡ saturated (l.count + whole_frames l.out (frames_in (drop l.i l.batches.items)) l.left);
  fits : l.count < 2 ^ 64;
}
