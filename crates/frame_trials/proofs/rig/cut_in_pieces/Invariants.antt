use Rattle.std.proofs.Common.{◌≡◌}
use Rattle.frame_trials.proofs.rig.cut_in_pieces.Given as goal

abbrev pub invariant-pieces : goal.invariant-pieces
invariant-pieces g l = (g.D.Decoder.state l.rig.decoder).fed ≡ l.rig.fed
