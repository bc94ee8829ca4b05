use Rattle.std.proofs.Common.{◌≡◌}
use Rattle.frame_trials.proofs.rig.most_held.Given as goal

abbrev pub invariant-pieces : goal.invariant-pieces
invariant-pieces g l = (g.D.Decoder.state l.rig.decoder).fed ≡ l.rig.fed
