use Rattle.std.proofs.Common.{rules, ◌≡◌, sym, ap, subst, ◌∙◌, List, length, map, slice_set, slice_index_or, Option, IfSome}
use Rattle.frame_batch.specs.Batches.{Batched}
use Rattle.std.specs.Option.{is_some}
use Rattle.sub_queue.specs.declared.items.End.{End}
use Rattle.sub_queue.specs.Ends.{Fed, Tapped, end_of}
use Rattle.broadcast_hub.specs.Hubs.{Kept, Hubbed, feed_of, AreKept}
use Rattle.broadcast_hub.specs.Leaving.{met, without, kept_after, IsTapOf, Meets}
use Rattle.broadcast_hub.specs.Sending.{StandsAt}
use Rattle.broadcast_hub.proofs.Parting.{at_feed, not_kept, at_place, met_at, met_kept, gone_at, gone_kept, meets_if, meets_as, stays_in, goes_out}
use Rattle.broadcast_hub.proofs.hub.Hub.waiting.Goals as goal

pub unreachable-requires : goal.unreachable-requires
unreachable-requires c =
    not_kept _ c.args.tap.now
    (ap (feed_of c.args.id) (ap (λ (h : Hubbed). h.kept) (sym c.self.view_is) ∙ sym c.deref.ensures.value) ∙ c.in_default.ensures) c.requires

pub meet-left-requires : goal.meet-left-requires
meet-left-requires c =
    let at = c.in-Some.ensures in
    let P : List Kept → Type 0 = λ ss. IsTapOf c.args.tap.now (feed_of c.args.id ss) in
    let sub = c.index_mut.ensures.value ∙ ap (λ ss. slice_index_or ss c.in-Some.i c.index_mut.result.now) (sym c.deref.ensures.value) ∙ at_place _ _ _ c.index_mut.result.now at in
    ap (λ (s : Kept). s.feed.line) sub ∙ at_feed _ _ _ c.args.tap.now at (subst P (ap (λ (h : Hubbed). h.kept) (sym c.self.view_is) ∙ sym c.deref.ensures.value) c.requires)

pub invariant_of-self : goal.invariant_of-self
invariant_of-self c =
    let P : List Kept → Type 0 = λ ss. StandsAt c.args.id c.in-Some.i ss in
    let at = subst P c.deref.ensures.value c.in-Some.ensures in
    let Q : List Kept → Type 0 = λ ss. AreKept c.self.inside.next ss in (
      subst Q (sym (gone_at _ _ c.self.inside.subs.items _ _ at c.remove.ensures.by_index.2)) (gone_kept _ _ _ _ at c.self.invariant.0),
      c.self.invariant.1,
      search rules,
    )

pub invariant_of-self-else-is_some : goal.invariant_of-self-else-is_some
invariant_of-self-else-is_some c =
    let P : List Kept → Type 0 = λ ss. StandsAt c.args.id c.in-Some.i ss in
    let at = subst P c.deref.ensures.value c.in-Some.ensures in
    let sub = c.index_mut.ensures.value ∙ at_place _ _ _ c.index_mut.result.now at in
    let all = met_at c.args.id c.in-Some.i (length c.args.tap.now.taken) _ _ _ at
    (meets_as (length c.args.tap.now.taken) _ _ _ sub c.meet-left.ensures.stays c.meet-left.ensures.feed) c.self.invariant.0.0 in
    let Q : List Kept → Type 0 = λ ss. AreKept c.self.inside.next ss in
    (subst Q (sym all) (met_kept _ _ _ _ c.self.invariant.0), c.self.invariant.1, c.self.invariant.2)

pub returns-then-is_some-clause-meets : goal.returns-then-is_some-clause-meets
returns-then-is_some-clause-meets c =
    let P : List Kept → Type 0 = λ ss. StandsAt c.args.id c.in-Some.i ss in
    let at = subst P c.deref.ensures.value c.in-Some.ensures in
    let sub = c.index_mut.ensures.value ∙ at_place _ _ _ c.index_mut.result.now at in
    let R : Kept → Type 0 = λ s. Meets s.feed c.args.tap.now c.meet-left.new.tap c.meet-left.result in
    let Q : List Kept → Type 0 = λ ss. IfSome (feed_of c.args.id ss) (λ feed. Meets feed c.args.tap.now c.meet-left.new.tap c.meet-left.result) in
    subst Q (ap (λ (h : Hubbed). h.kept) c.self.view_is) (meets_if _ _ c.meet-left.result _ _ _ at (subst R sub c.meet-left.ensures.meets))

pub returns-then-is_some-clause-hub : goal.returns-then-is_some-clause-hub
returns-then-is_some-clause-hub c =
    let P : List Kept → Type 0 = λ ss. StandsAt c.args.id c.in-Some.i ss in
    let at = subst P c.deref.ensures.value c.in-Some.ensures in
    let sub = c.index_mut.ensures.value ∙ at_place _ _ _ c.index_mut.result.now at in
    let taken = ap (λ (t : Tapped Batched). end_of t.taken) c.meet-left.ensures.meets.told in
    let said = c.if-is_some.ensures ∙ ap (λ (o : Option End). is_some o) (c.ended.ensures ∙ taken) in
    let kept = gone_at _ _ c.self.inside.subs.items _ _ at c.remove.ensures.by_index.2
    ∙ sym (goes_out c.args.id (length c.args.tap.now.taken) (end_of c.args.tap.now.taken) c.self.inside.subs.items said) in
    (λ i. record { published = c.self.inside.published; closed = c.self.inside.closed; next = c.self.inside.next; kept = kept i })
    ∙ ap (λ (h : Hubbed). record h { kept = kept_after c.args.id (length c.args.tap.now.taken) (end_of c.args.tap.now.taken) h.kept }) c.self.view_is

pub returns-else-is_some-clause-meets : goal.returns-else-is_some-clause-meets
returns-else-is_some-clause-meets c =
    let P : List Kept → Type 0 = λ ss. StandsAt c.args.id c.in-Some.i ss in
    let at = subst P c.deref.ensures.value c.in-Some.ensures in
    let sub = c.index_mut.ensures.value ∙ at_place _ _ _ c.index_mut.result.now at in
    let R : Kept → Type 0 = λ s. Meets s.feed c.args.tap.now c.meet-left.new.tap c.meet-left.result in
    let Q : List Kept → Type 0 = λ ss. IfSome (feed_of c.args.id ss) (λ feed. Meets feed c.args.tap.now c.meet-left.new.tap c.meet-left.result) in
    subst Q (ap (λ (h : Hubbed). h.kept) c.self.view_is) (meets_if _ _ c.meet-left.result _ _ _ at (subst R sub c.meet-left.ensures.meets))

pub returns-else-is_some-clause-hub : goal.returns-else-is_some-clause-hub
returns-else-is_some-clause-hub c =
    let P : List Kept → Type 0 = λ ss. StandsAt c.args.id c.in-Some.i ss in
    let at = subst P c.deref.ensures.value c.in-Some.ensures in
    let sub = c.index_mut.ensures.value ∙ at_place _ _ _ c.index_mut.result.now at in
    let all = met_at c.args.id c.in-Some.i (length c.args.tap.now.taken) _ _ _ at
    (meets_as (length c.args.tap.now.taken) _ _ _ sub c.meet-left.ensures.stays c.meet-left.ensures.feed) c.self.invariant.0.0 in
    let taken = ap (λ (t : Tapped Batched). end_of t.taken) c.meet-left.ensures.meets.told in
    let said = c.if-is_some.ensures ∙ ap (λ (o : Option End). is_some o) (c.ended.ensures ∙ taken) in
    let kept = all ∙ sym (stays_in c.args.id (length c.args.tap.now.taken) (end_of c.args.tap.now.taken) c.self.inside.subs.items said) in
    (λ i. record { published = c.self.inside.published; closed = c.self.inside.closed; next = c.self.inside.next; kept = kept i })
    ∙ ap (λ (h : Hubbed). record h { kept = kept_after c.args.id (length c.args.tap.now.taken) (end_of c.args.tap.now.taken) h.kept }) c.self.view_is
