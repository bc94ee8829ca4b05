use Rattle.std.proofs.Common.{◌≡◌, drop, map}
use Rattle.frame_writer.specs.Over.{first_over}
use Rattle.frame_writer.proofs.over.check_all.Given as goal

abbrev pub invariant-loop-frame : goal.invariant-loop-frame
invariant-loop-frame l = first_over l.out (map (λ f. f.now) (drop l.frame-index l.frames)) ≡ first_over l.out (map (λ f. f.now) l.frames)
