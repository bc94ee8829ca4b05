use Rattle.std.proofs.Common.{◌≡◌, ◌≤◌, ◌-◌, take, drop, length}
use Rattle.std.specs.Prelude.{IfSome}
use Rattle.buffered_io.specs.Reading.{Read}
use Rattle.buffered_io.proofs.reading.fill.Given as goal

abbrev pub invariant-pieces : goal.invariant-pieces
invariant-pieces g l = record {
  size : length l.block ≡ length l.fn.block;
  within : l.at ≤ length l.block;
  read : Read (length l.fn.block) (take l.at l.block) (g.S.Source.state l.fn.source) (g.S.Source.state l.source);
  behind : IfSome (g.S.Source.state l.fn.source).given (λ _. drop l.at l.block ≡ drop l.at l.fn.block);
}

abbrev pub decreases-pieces : goal.decreases-pieces
decreases-pieces g l = length l.block - l.at
