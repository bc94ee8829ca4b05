use Rattle.std.proofs.Common.{◌≡◌}
use Rattle.frame_trials.proofs.rig.Rig.feed_each.Given as goal

abbrev pub invariant-pieces : goal.invariant-pieces
invariant-pieces g l = (g.D.Decoder.state l.self.decoder).fed ≡ l.self.fed
