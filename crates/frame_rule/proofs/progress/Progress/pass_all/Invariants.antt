use Rattle.std.proofs.Common.{◌≤◌, ◌<◌, length, drop}
use Rattle.std.specs.Option.{ForSome}
use Rattle.std.specs.List.{slice_get}
use Rattle.buffer_model.specs.Segment.{bytes_of}
use Rattle.frame_rule.specs.Framing.{Passes}
use Rattle.frame_rule.specs.Hauls.{CutsNodes, Moves}
use Rattle.frame_rule.proofs.progress.Progress.pass_all.Given as goal

abbrev pub invariant-nodes : goal.invariant-nodes
invariant-nodes g l = record {
  within : l.i ≤ length l.chain;
  next : l.i < length l.chain → ForSome (slice_get l.chain l.i) (λ s. 0 < length s.window);
  passes : Passes g.S.Scanner.codec_of g.S.Scanner.saw l.fn.self l.self l.fn.first l.i l.fn.chain l.chain l.fn.haul.units.items l.haul.units.items;
  moves : Moves l.fn.mint l.mint l.fn.chain l.chain l.fn.haul l.haul;
  nodes : CutsNodes l.fn.chain l.chain l.fn.haul.units.items l.haul.units.items;
}

abbrev pub decreases-nodes : goal.decreases-nodes
decreases-nodes g l = length (bytes_of (drop l.i l.chain))
