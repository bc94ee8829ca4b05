use Rattle.std.proofs.Common.{◌≡◌, ◌<◌, ◌^◌, take}
use Rattle.frame_head.specs.Numbers.{number}
use Rattle.read_cursor.proofs.number.most_first.Given as goal

abbrev pub invariant-loop-x : goal.invariant-loop-x
invariant-loop-x l = record {
  so_far : l.n ≡ number (take l.x-index l.bytes);
  below : l.n < 256 ^ l.x-index;
}
