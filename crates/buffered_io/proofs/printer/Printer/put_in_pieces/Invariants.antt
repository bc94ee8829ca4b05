use Rattle.std.proofs.Common.{◌≤◌, ◌-◌, take, length}
use Rattle.buffered_io.specs.Writing.{PrintsTo, outlet}
use Rattle.buffered_io.proofs.printer.Printer.put_in_pieces.Given as goal

abbrev pub invariant-pieces : goal.invariant-pieces
invariant-pieces g l = record {
  within : l.at ≤ length l.bytes;
  printed : PrintsTo (take l.at l.bytes) (outlet l.fn.self (g.W.Sink.state l.fn.sink)) (outlet l.self (g.W.Sink.state l.sink));
}

abbrev pub decreases-pieces : goal.decreases-pieces
decreases-pieces g l = length l.bytes - l.at
