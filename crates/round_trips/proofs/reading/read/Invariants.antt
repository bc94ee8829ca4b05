-- It was fed what the rig says.
use Rattle.std.proofs.Common.{◌≡◌}
use Rattle.round_trips.proofs.reading.read.Given as goal

abbrev pub invariant-pieces : goal.invariant-pieces
invariant-pieces g l = (g.D.Decoder.state l.rig.decoder).fed ≡ l.rig.fed
