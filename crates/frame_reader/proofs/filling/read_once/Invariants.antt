use Rattle.std.proofs.Common.{◌≡◌, length}
use Rattle.std.specs.Io.KnownBytes.{Keeps}
use Rattle.frame_reader.proofs.filling.read_once.Given as goal

abbrev pub invariant-tries : goal.invariant-tries
invariant-tries g l = record {
  size : length l.into ≡ length l.fn.into;
  kept : Keeps (g.R.Read.remaining l.fn.input) (g.R.Read.remaining l.input);
}
