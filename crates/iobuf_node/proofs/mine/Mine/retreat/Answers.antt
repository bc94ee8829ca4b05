use Rattle.std.proofs.Common.{◌-◌}
use Rattle.std.proofs.Common.{ℕ, refl, ap, ◌∙◌}
use Rattle.buffer_model.specs.Segment.{moved_to}
use Rattle.iobuf_node.specs.Mine.{seen}
use Rattle.buffer_model.proofs.Windows.{moves}
use Rattle.iobuf_node.proofs.mine.Mine.retreat.Goals as goal

pub returns-clause-window : goal.returns-clause-window
returns-clause-window g c =
    moves _ _ _ _ _ refl _ _ _ c.copy_within.new.self c.head-start.ensures.value c.length-len.ensures c.copy_within.ensures ∙ ap (λ (x : ℕ). moved_to (x - c.args.n) (seen c.args.self.now)) c.head-start.ensures.value
