use Rattle.std.proofs.Common.{◌∙◌, ap, refl, sym}
use Rattle.broadcast_hub.specs.Hubs.{has_live}
use Rattle.broadcast_hub.proofs.Kept.{kept_back, left_as_kept, map_length, written, nobody_left}
use Rattle.broadcast_hub.proofs.hub.Hub.unsubscribe.Goals as goal

pub invariant_of-self : goal.invariant_of-self
invariant_of-self c = (
  kept_back _ _ _ _ _ c.deref_mut.ensures.value c.deref_mut.ensures.len (map_length _ _ _ c.leave_as.ensures.leaves)
      (left_as_kept _ _ _ _ _ _ c.leave_as.ensures.leaves) c.self.invariant.0,
  c.self.invariant.1,
  c.self.invariant.2,
)

pub returns-then-not-leave_as : goal.returns-then-not-leave_as
returns-then-not-leave_as c =
    let leaves = c.leave_as.ensures.leaves in
    let none = sym c.leave_as.ensures.did ∙ c.if-not-leave_as.true in
    let same = written _ _ _ _ c.deref_mut.ensures.value c.deref_mut.ensures.len (map_length _ _ _ leaves)
    ∙ leaves ∙ nobody_left c.args.id _ _ _ none ∙ c.deref_mut.ensures.value in (
      ap (has_live c.args.id) (ap (λ h. h.kept) (sym c.self.view_is) ∙ sym c.deref_mut.ensures.value) ∙ none,
      refl,
      (λ i. record { published = c.self.inside.published; closed = c.self.inside.closed; next = c.self.inside.next; kept = same i }) ∙ c.self.view_is,
    )

pub invariant_of-self-2 : goal.invariant_of-self-2
invariant_of-self-2 c = (
  kept_back _ _ _ _ _ c.deref_mut.ensures.value c.deref_mut.ensures.len (map_length _ _ _ c.leave_as.ensures.leaves)
      (left_as_kept _ _ _ _ _ _ c.leave_as.ensures.leaves) c.self.invariant.0,
  c.self.invariant.1,
  c.self.invariant.2,
)
