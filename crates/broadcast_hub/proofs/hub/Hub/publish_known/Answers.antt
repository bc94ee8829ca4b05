use Rattle.std.proofs.Common.{rules, ◌≡◌, ℕ, ◌+◌, ◌≤◌, ◌<◌, ◌++◌, List, [], length, length-take-le, take, drop, refl, sym, ap, subst, ◌∙◌, arith, inl, inr}
use Rattle.std.specs.List.{AllZip}
use Rattle.broadcast_hub.specs.Hubs.{Kept, Hubbed, is_live, live_in, here_in}
use Rattle.storage.specs.declared.release.NoOwner.{NoOwner}
use Rattle.storage.specs.Back.{stakes_in}
use Rattle.buffer_model.specs.Segment.{Segment}
use Rattle.buffer_model.specs.Stake.{Keeps}
use Rattle.buffer_model.proofs.Totals.{keeps_same}
use Rattle.iobuf_chain.specs.Accounts.{held_by}
use Rattle.iobuf_chain.specs.Copies.{WithData}
use Rattle.iobuf_chain.specs.Lists.{Each}
use Rattle.iobuf_chain.specs.Many.{Lasts}
use Rattle.iobuf_chain.proofs.Rejoined.{regains_keep}
use Rattle.broadcast_hub.specs.Publishing.{Publishes, KnowsAsBefore, HasRoomIfLive, IsFirstFull, SomeIsFull}
use Rattle.broadcast_hub.specs.Sending.{SendsEach}
use Rattle.broadcast_hub.proofs.Copying.{copies_sent}
use Rattle.broadcast_hub.proofs.Filled.{fills_first}
use Rattle.broadcast_hub.proofs.Sums.{keeps_unsent, copies_unsent, keeps_sent, rest_lasts_if}
use Rattle.broadcast_hub.proofs.Places.{how_many_most}
use Rattle.broadcast_hub.proofs.Kept.{kept_back, written}
use Rattle.broadcast_hub.proofs.Outcome.{knows_same, knows_all, published_none, publishes, first_full, few_live, all_room, made_frames, rooms_of, sent_kept, sent_length}
use Rattle.broadcast_hub.proofs.hub.Hub.publish_known.Goals as goal

pub returns-then-live-eq0-clause-published : goal.returns-then-live-eq0-clause-published
returns-then-live-eq0-clause-published g c =
    let seen : Hubbed = record { published = c.self.inside.published; closed = c.self.inside.closed; next = c.self.inside.next; kept = c.self.inside.subs.items } in
    let now : Hubbed = record seen { published = seen.published + c.len-most.result } in
    let live = c.count_live-live.ensures ∙ ap live_in c.deref.ensures.value in
    let P : Hubbed → Type 0 = λ h. Publishes (take c.len-most.result c.args.batch.frames) h now in
    subst P c.self.view_is (published_none c.len-most.result c.args.batch.frames seen now c.len-most.ensures
    (elim c.then-live-eq0.either [ inl none ↦ inl (sym live ∙ none) | inr empty ↦ inr empty.1 ]) refl)

pub returns-then-live-eq0-clause-known : goal.returns-then-live-eq0-clause-known
returns-then-live-eq0-clause-known g c =
    let P : List Kept → Type 0 = λ ss. AllZip KnowsAsBefore ss c.self.inside.subs.items in
    subst P (ap (λ (h : Hubbed). h.kept) c.self.view_is) (knows_same c.self.inside.subs.items)

pub returns-then-live-eq0-clause-totals : goal.returns-then-live-eq0-clause-totals
returns-then-live-eq0-clause-totals g c =
    λ z other. keeps_unsent c.args.batch.chain c.args.self.now.kept c.self.inside.subs.items _ z (ap (λ (h : Hubbed). h.kept) c.self.view_is)
    (let P : List (Segment NoOwner) → Type 0 = λ ns. Keeps (held_by ns) (stakes_in c.give_back.result) z in subst P c.into_chain.ensures (c.give_back.ensures.totals z))

pub returns-then-live-eq0-clause-copies : goal.returns-then-live-eq0-clause-copies
returns-then-live-eq0-clause-copies g c =
    λ lasts. copies_unsent _ c.args.self.now.kept c.self.inside.subs.items (ap (λ (h : Hubbed). h.kept) c.self.view_is)

pub returns-then-count-eq0-clause-known : goal.returns-then-count-eq0-clause-known
returns-then-count-eq0-clause-known g c = knows_same c.args.self.now.kept

pub returns-then-count-eq0-clause-refused : goal.returns-then-count-eq0-clause-refused
returns-then-count-eq0-clause-refused g c =
    let least = c.least_room-count.ensures in
    let none = c.if-count-eq0.true in
    let most = c.if-most-eq0.false in
    let at = least.least (omega (arith, none, most)) in
    let P : ℕ → Type 0 = λ n. IsFirstFull n c.least_room-count.result.1 c.deref-2.result.now in
    let Q : List Kept → Type 0 = λ ss. IsFirstFull 0 c.least_room-count.result.1 ss in (
      refl,
      (refl, subst Q (c.deref-2.ensures.value ∙ ap (λ (h : Hubbed). h.kept) c.self.view_is) (subst P none (first_full _ _ _ c.deref-2.result.now (omega arith) at))),
    )

pub returns-then-count-eq0-clause-totals : goal.returns-then-count-eq0-clause-totals
returns-then-count-eq0-clause-totals g c =
    λ z other. keeps_unsent c.args.batch.chain c.args.self.now.kept c.args.self.now.kept _ z refl (keeps_same (held_by c.args.batch.chain) z)

pub returns-then-count-eq0-clause-copies : goal.returns-then-count-eq0-clause-copies
returns-then-count-eq0-clause-copies g c =
    λ lasts. copies_unsent _ c.args.self.now.kept c.args.self.now.kept refl

pub share_out-requires-clause-room : goal.share_out-requires-clause-room
share_out-requires-clause-room g c =
    let live = c.count_live-live.ensures in
    let most = how_many_most is_live c.deref.result.now in
    let len = c.deref.ensures.len in
    let room = c.self.invariant.2 in
    let some = c.if-live-eq0.false in
    (omega (arith, some), omega (arith, live, most, len, room))

pub returns-in-Err-clause-known : goal.returns-in-Err-clause-known
returns-in-Err-clause-known g c =
    let P : List Kept → Type 0 = λ ss. AllZip KnowsAsBefore ss c.self.inside.subs.items in
    subst P (ap (λ (h : Hubbed). h.kept) c.self.view_is) (knows_same c.self.inside.subs.items)

pub returns-in-Err-clause-totals : goal.returns-in-Err-clause-totals
returns-in-Err-clause-totals g c =
    λ z other. keeps_unsent c.args.batch.chain c.args.self.now.kept c.self.inside.subs.items _ z (ap (λ (h : Hubbed). h.kept) c.self.view_is) (regains_keep _ _ c.in-Err.ensures.refused.1 z)

pub returns-in-Err-clause-copies : goal.returns-in-Err-clause-copies
returns-in-Err-clause-copies g c =
    λ lasts. copies_unsent _ c.args.self.now.kept c.self.inside.subs.items (ap (λ (h : Hubbed). h.kept) c.self.view_is)

pub returns-in-Err-clause-numbers : goal.returns-in-Err-clause-numbers
returns-in-Err-clause-numbers g c =
    let live = c.count_live-live.ensures ∙ ap live_in (c.deref.ensures.value ∙ ap (λ (h : Hubbed). h.kept) c.self.view_is) in
    let few = few_live _ _ _ (ap (λ (h : Hubbed). h.kept) c.self.view_is) c.self.invariant.0 in
    let P : ℕ → Type 0 = λ n. Each (Lasts n) c.args.batch.chain in
    λ lasts. c.share_out.ensures.numbers (omega (arith, live, few)) (subst P (sym live) lasts)

pub send_each-requires-clause-room : goal.send_each-requires-clause-room
send_each-requires-clause-room g c =
    let some = c.if-count-eq0.false in
    let least = c.least_room-count.ensures in
    let most = least.most_is in
    let size = c.len-most.ensures in
    let P : List Kept → Type 0 = λ ss. Each (HasRoomIfLive c.least_room-count.result.0) ss in (
      c.least_room-count.result.0,
      all_room _ _ _ _ _ _ _ c.in-Ok.ensures.shares (omega (arith, some)) (omega (arith, most, size)),
      subst P (c.deref-2.ensures.value ∙ sym c.deref_mut.ensures.value) (rooms_of c.least_room-count.result.0 c.deref-2.result.now least.fits),
    )

pub invariant_of-self-2 : goal.invariant_of-self-2
invariant_of-self-2 g c = (
  kept_back _ _ _ _ _ c.deref_mut.ensures.value c.deref_mut.ensures.len (sent_length _ _ _ c.send_each.ensures.sent.sent) (sent_kept _ _ _ _ c.send_each.ensures.sent)
      c.self.invariant.0,
  c.send_each.ensures.none,
  search rules,
)

pub returns-clause-published : goal.returns-clause-published
returns-clause-published g c =
    let count : ℕ = c.least_room-count.result.0 in
    let xs : List (List ℕ) = take count c.args.batch.frames in
    let some = c.if-count-eq0.false in
    let least = c.least_room-count.ensures in
    let most = least.most_is in
    let all = c.len-most.ensures in
    let size : length xs ≡ count = length-take-le count c.args.batch.frames (omega (arith, most, all)) in
    let seen : Hubbed = record { published = c.self.inside.published; closed = c.self.inside.closed; next = c.self.inside.next; kept = c.self.inside.subs.items } in
    let now : Hubbed = record seen {
      published = seen.published + count;
      kept = take c.self.inside.subs.len (c.send_each.new.subs ++ drop (length c.send_each.new.subs) c.self.inside.subs.items);
    } in
    let P : List Kept → Type 0 = λ ss. SendsEach c.share_out.new.batches.items ss c.send_each.new.subs in
    let Q : List Kept → Type 0 = λ ts. SendsEach c.share_out.new.batches.items c.self.inside.subs.items ts in
    let sent = subst Q (sym (written _ _ _ c.send_each.new.subs c.deref_mut.ensures.value c.deref_mut.ensures.len (sent_length _ _ _ c.send_each.ensures.sent.sent))) (subst P c.deref_mut.ensures.value c.send_each.ensures.sent) in
    let R : List Kept → Type 0 = λ ss. Each (HasRoomIfLive count) ss in
    let rooms = subst R c.deref-2.ensures.value (rooms_of count c.deref-2.result.now least.fits) in
    let T : ℕ → Type 0 = λ n. Each (HasRoomIfLive n) c.self.inside.subs.items in
    let V : Hubbed → Type 0 = λ h. Publishes xs h now in
    subst V c.self.view_is (publishes xs c.share_out.new.batches.items seen now (omega (arith, size, some)) sent
    (made_frames _ _ _ _ _ _ _ c.in-Ok.ensures.shares) (subst T (sym size) rooms)
    (λ i. record now { published = seen.published + sym size i }))

pub returns-clause-known : goal.returns-clause-known
returns-clause-known g c =
    let P : List Kept → Type 0 = λ ss. AllZip KnowsAsBefore ss c.send_each.new.subs in
    let Q : List Kept → Type 0 = λ ts. AllZip KnowsAsBefore c.args.self.now.kept ts in
    subst Q (sym (written _ _ _ c.send_each.new.subs c.deref_mut.ensures.value c.deref_mut.ensures.len (sent_length _ _ _ c.send_each.ensures.sent.sent)))
    (subst P (c.deref_mut.ensures.value ∙ ap (λ (h : Hubbed). h.kept) c.self.view_is) (knows_all _ _ _ c.send_each.ensures.sent.sent))

pub returns-clause-most : goal.returns-clause-most
returns-clause-most g c =
    λ more.
    let some = c.if-count-eq0.false in
    let size = c.len-most.ensures in
    let least = c.least_room-count.ensures in
    let most = least.most_is in
    let sizes = all_room _ _ _ _ _ _ _ c.in-Ok.ensures.shares (omega (arith, some)) (omega (arith, most, size)) in
    let P : List Kept → Type 0 = λ ss. SendsEach c.share_out.new.batches.items ss c.send_each.new.subs in
    let sent = subst P (c.deref_mut.ensures.value ∙ sym c.deref-2.ensures.value) c.send_each.ensures.sent in
    let Q : List Kept → Type 0 = λ ts. SomeIsFull ts in
    subst Q (sym (written _ _ _ c.send_each.new.subs c.deref_mut.ensures.value c.deref_mut.ensures.len (sent_length _ _ _ c.send_each.ensures.sent.sent))) (fills_first _ _ _ _ _ (least.least (omega (arith, more, size))) sent sizes)

pub returns-clause-totals : goal.returns-clause-totals
returns-clause-totals g c =
    let P : List Kept → Type 0 = λ ss. SendsEach c.share_out.new.batches.items ss c.send_each.new.subs in
    let sent = subst P (c.deref_mut.ensures.value ∙ ap (λ (h : Hubbed). h.kept) c.self.view_is) c.send_each.ensures.sent in
    let Q : List Kept → Type 0 = λ ts. SendsEach c.share_out.new.batches.items c.args.self.now.kept ts in
    keeps_sent _ _ _ _ _ c.in-Ok.rest _ _ _ c.in-Ok.ensures.shares (subst Q (sym (written _ _ _ c.send_each.new.subs c.deref_mut.ensures.value c.deref_mut.ensures.len (sent_length _ _ _ c.send_each.ensures.sent.sent))) sent)

pub returns-clause-copies : goal.returns-clause-copies
returns-clause-copies g c =
    let live = c.count_live-live.ensures ∙ ap live_in (c.deref.ensures.value ∙ ap (λ (h : Hubbed). h.kept) c.self.view_is) in
    let few = few_live _ _ _ (ap (λ (h : Hubbed). h.kept) c.self.view_is) c.self.invariant.0 in
    let P : List Kept → Type 0 = λ ss. SendsEach c.share_out.new.batches.items ss c.send_each.new.subs in
    let Q : List Kept → Type 0 = λ ts. SendsEach c.share_out.new.batches.items c.args.self.now.kept ts in
    let sent = subst Q (sym (written _ _ _ c.send_each.new.subs c.deref_mut.ensures.value c.deref_mut.ensures.len (sent_length _ _ _ c.send_each.ensures.sent.sent))) (subst P (c.deref_mut.ensures.value ∙ ap (λ (h : Hubbed). h.kept) c.self.view_is) c.send_each.ensures.sent) in
    let R : ℕ → Type 0 = λ n. WithData (Lasts n) c.args.batch.chain in
    λ lasts. copies_sent _ _ _ _ _ c.in-Ok.rest _ _ _ c.in-Ok.ensures.shares sent (omega (arith, live, few)) (subst R (sym live) lasts)

pub returns-clause-left : goal.returns-clause-left
returns-clause-left g c =
    λ k few lasts.
    let live = c.count_live-live.ensures ∙ ap live_in (c.deref.ensures.value ∙ ap (λ (h : Hubbed). h.kept) c.self.view_is) in
    let P : ℕ → Type 0 = λ n. WithData (Lasts (n + k)) c.args.batch.chain in
    rest_lasts_if c.count_live-live.result _ k _ _ _ c.in-Ok.rest _ c.in-Ok.ensures.shares (omega (arith, live, few)) (subst P (sym live) lasts)

pub returns-clause-numbers : goal.returns-clause-numbers
returns-clause-numbers g c =
    let live = c.count_live-live.ensures ∙ ap live_in (c.deref.ensures.value ∙ ap (λ (h : Hubbed). h.kept) c.self.view_is) in
    let few = few_live _ _ _ (ap (λ (h : Hubbed). h.kept) c.self.view_is) c.self.invariant.0 in
    let P : ℕ → Type 0 = λ n. Each (Lasts n) c.args.batch.chain in
    λ lasts. c.share_out.ensures.numbers (omega (arith, live, few)) (subst P (sym live) lasts)
