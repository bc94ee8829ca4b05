use Rattle.broadcast_hub.proofs.Kept.{kept_back, left_kept, map_length}
use Rattle.broadcast_hub.proofs.hub.Hub.close.Goals as goal

pub invariant_of-self : goal.invariant_of-self
invariant_of-self c = (
  kept_back _ _ _ _ _ c.deref_mut.ensures.value c.deref_mut.ensures.len (map_length _ _ _ c.leave_all.ensures) (left_kept _ _ _ _ _ c.leave_all.ensures) c.self.invariant.0,
  c.self.invariant.1,
  c.self.invariant.2,
)
