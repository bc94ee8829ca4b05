use Rattle.std.proofs.Common.{◌≡◌, ◌+◌, length, take, drop}
use Rattle.frame_head.specs.Framed.{framed_text, whole_frames}
use Rattle.observer.proofs.counting.whole_in.Given as goal

abbrev pub invariant-frames : goal.invariant-frames
invariant-frames l = record {
  whole : whole_frames l.out l.batch.frames l.fn.left ≡ l.i + whole_frames l.out (drop l.i l.batch.frames) l.left;
  rest : l.fn.left ≡ length (framed_text l.out (take l.i l.batch.frames)) + l.left;
}
