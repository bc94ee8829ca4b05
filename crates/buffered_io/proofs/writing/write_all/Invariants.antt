use Rattle.std.proofs.Common.{◌≤◌, ◌-◌, take, length}
use Rattle.buffered_io.specs.Writing.{Wrote}
use Rattle.buffered_io.proofs.writing.write_all.Given as goal

abbrev pub invariant-pieces : goal.invariant-pieces
invariant-pieces g l = record {
  within : l.at ≤ length l.text;
  wrote : Wrote (take l.at l.text) (g.W.Sink.state l.fn.sink) (g.W.Sink.state l.sink);
}

abbrev pub decreases-pieces : goal.decreases-pieces
decreases-pieces g l = length l.text - l.at
