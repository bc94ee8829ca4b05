use Rattle.std.proofs.Common.{◌≡◌, ℕ, ◌+◌, ◌*◌, ◌++◌, ◌<◌, List, [], length, take, drop, refl, sym, ap, subst, ◌∙◌, arith}
use Rattle.std.specs.List.{AllZip}
use Rattle.storage.specs.declared.release.NoOwner.{NoOwner}
use Rattle.buffer_model.specs.Segment.{Segment}
use Rattle.buffer_model.specs.Minted.{AddsAtMost}
use Rattle.buffer_model.specs.Stake.{Keeps}
use Rattle.iobuf_chain.specs.Accounts.{held_by}
use Rattle.iobuf_chain.specs.Copies.{CopiesNoData, WithData}
use Rattle.iobuf_chain.specs.Lists.{Each}
use Rattle.iobuf_chain.specs.Many.{Lasts}
use Rattle.broadcast_hub.specs.Hubs.{Kept, Hubbed, live_in}
use Rattle.broadcast_hub.specs.Publishing.{Looks, answered}
use Rattle.broadcast_hub.proofs.Kept.{kept_back, written, looked_kept, looked_length}
use Rattle.broadcast_hub.proofs.Looking.{live_looked, nodes_looked, publishes_looked_if, returns_looked_if}
use Rattle.broadcast_hub.proofs.hub.Hub.publish.Given.{Over}
use Rattle.broadcast_hub.proofs.hub.Hub.publish.Goals as goal

pub invariant_of-self : goal.invariant_of-self
invariant_of-self g c = (
  kept_back _ _ _ _ _ c.deref_mut.ensures.value c.deref_mut.ensures.len (looked_length _ _ c.look_where_short.ensures.looks) (looked_kept _ _ _ c.look_where_short.ensures.looks)
      c.self.invariant.0,
  c.self.invariant.1,
  c.self.invariant.2,
)

-- the subscriptions after the look
abbrev looked-list : (g : Over) → goal.After-publish_known g → List Kept
looked-list g c = take c.self.inside.subs.len (c.look_where_short.new.subs ++ drop (length c.look_where_short.new.subs) c.self.inside.subs.items)

are-looked : (g : Over) (c : goal.After-publish_known g) → AllZip Looks c.args.self.now.kept (looked-list g c)
are-looked g c =
    let P : List Kept → Type 0 = λ ss. AllZip Looks ss c.look_where_short.new.subs in
    let Q : List Kept → Type 0 = λ ts. AllZip Looks c.args.self.now.kept ts in
    subst Q (sym (written _ _ _ c.look_where_short.new.subs c.deref_mut.ensures.value c.deref_mut.ensures.len (looked_length _ _ c.look_where_short.ensures.looks)))
    (subst P (c.deref_mut.ensures.value ∙ ap (λ (h : Hubbed). h.kept) c.self.view_is) c.look_where_short.ensures.looks)

same-live : (g : Over) (c : goal.After-publish_known g) → live_in (looked-list g c) ≡ live_in c.args.self.now.kept
same-live g c = live_looked _ _ (are-looked g c)

pub returns-clause-published : goal.returns-clause-published
returns-clause-published g c =
    let back = written _ _ _ c.look_where_short.new.subs c.deref_mut.ensures.value c.deref_mut.ensures.len (looked_length _ _ c.look_where_short.ensures.looks) in
    let mid : Hubbed = record { published = c.self.inside.published; closed = c.self.inside.closed; next = c.self.inside.next; kept = looked-list g c } in
    publishes_looked_if c.publish_known.result c.args.batch c.args.self.now mid c.publish_known.new.self (are-looked g c)
    (λ i. record {
      published = ap (λ (h : Hubbed). h.published) c.self.view_is i;
      closed = ap (λ (h : Hubbed). h.closed) c.self.view_is i;
      next = ap (λ (h : Hubbed). h.next) c.self.view_is i;
      kept = looked-list g c;
    })
    (λ none. (λ i. record {
      published = c.self.inside.published;
      closed = c.self.inside.closed;
      next = c.self.inside.next;
      kept = (back ∙ c.look_where_short.ensures.none (c.len.ensures ∙ none) ∙ c.deref_mut.ensures.value) i;
    }) ∙ c.self.view_is)
    c.publish_known.ensures.some c.publish_known.ensures.published

pub returns-clause-returns : goal.returns-clause-returns
returns-clause-returns g c = returns_looked_if c.publish_known.result c.args.batch (looked-list g c) c.args.self.now.kept (same-live g c) c.publish_known.ensures.returns

pub returns-clause-totals : goal.returns-clause-totals
returns-clause-totals g c = λ z other.
    let P : List (Segment NoOwner) → Type 0 = λ ns. Keeps (held_by c.args.batch.chain) (held_by ns ++ answered c.publish_known.result) z in
    subst P (nodes_looked _ _ c.publish_known.new.self.kept (are-looked g c)) (c.publish_known.ensures.totals z other)

pub returns-clause-copies : goal.returns-clause-copies
returns-clause-copies g c = λ lasts.
    let P : List (Segment NoOwner) → Type 0 = λ ns. CopiesNoData c.args.batch.chain ns in
    let Q : ℕ → Type 0 = λ n. WithData (Lasts n) c.args.batch.chain in
    subst P (nodes_looked _ _ c.publish_known.new.self.kept (are-looked g c)) (c.publish_known.ensures.copies (subst Q (sym (same-live g c)) lasts))

pub returns-clause-left : goal.returns-clause-left
returns-clause-left g c = λ k few lasts.
    let live = same-live g c in
    let Q : ℕ → Type 0 = λ n. WithData (Lasts (n + k)) c.args.batch.chain in
    c.publish_known.ensures.left k (omega (arith, live, few)) (subst Q (sym live) lasts)

pub returns-clause-mint : goal.returns-clause-mint
returns-clause-mint g c =
    let P : ℕ → Type 0 = λ n. AddsAtMost (n * length c.args.batch.chain) c.args.mint.now c.publish_known.new.mint in
    subst P (same-live g c) c.publish_known.ensures.mint

pub returns-clause-numbers : goal.returns-clause-numbers
returns-clause-numbers g c = λ lasts.
    let Q : ℕ → Type 0 = λ n. Each (Lasts n) c.args.batch.chain in c.publish_known.ensures.numbers (subst Q (sym (same-live g c)) lasts)
