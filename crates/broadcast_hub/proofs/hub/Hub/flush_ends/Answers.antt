use Rattle.broadcast_hub.proofs.Kept.{kept_back, flushed_kept, flushed_length}
use Rattle.broadcast_hub.proofs.hub.Hub.flush_ends.Goals as goal

pub invariant_of-self : goal.invariant_of-self
invariant_of-self g c = (
  kept_back _ _ _ _ _ c.deref_mut.ensures.value c.deref_mut.ensures.len (flushed_length _ _ c.flush_all.ensures.flushes)
      (flushed_kept _ _ _ c.flush_all.ensures.flushes) c.self.invariant.0,
  c.self.invariant.1,
  c.self.invariant.2,
)
