-- What a relay tells of what its subscribers got.
use Rattle.std.proofs.Common.{◌≡◌, ◌⊎◌, ℕ, ◌-◌, ◌<◌, ◌≤◌, true, List, [], ◌∷◌, ◌++◌, length, take, drop, Option, Some, None, All, refl, sym, ap, ◌∙◌, subst, arith, inl, inr, ⊎_elim, append_assoc, append-nil, take-append-drop}
use Rattle.std.specs.Prelude.{IfSome, MatchOption, ⊤, map}
use Rattle.std.proofs.lemmas.List.{drop-append-le, drop_all}
use Rattle.std.proofs.lemmas.List.Elements.{All-weaker, All-nil, All-cons, All-head, All-tail}
use Rattle.sub_queue.specs.declared.items.End.{End}
use Rattle.sub_queue.specs.declared.items.Item.{Item}
use Rattle.sub_queue.specs.declared.items.Item.TheVariants.{One}
use Rattle.sub_queue.specs.Line.{Begins}
use Rattle.hub_model.specs.Hub.{Standing, live, leaving, gone, is_gone, Subscription, part, range, range_as, end_as, frames_of}
use Rattle.hub_model.proofs.Serving.{Keeps, is_served}
use Rattle.hub_model.proofs.Ranges.{part_all}
use Rattle.relay_model.specs.Relay.{Member, Relay}
use Rattle.relay_model.specs.Standing.{count, turns, Ended, IsSeated, StandsAs, Awaits, Follows, IsDone, Got}
use Rattle.relay_model.specs.Laws.{OverTells, StandsBegins}
use Rattle.relay_model.proofs.Taking.{keeps_of}

module _ {X : Type 0} where
  -- the ranges of a subscription that ended are those of its first place
  shut_range : (P : List X) (from first stop : ℕ) → stop ≡ length P
      → (first ≡ from) ⊎ ((first ≡ stop) × (stop ≤ from)) → part P first stop ≡ drop from P
  shut_range P from first stop is where_from = ⊎_elim
      (λ e. (λ i. part P (e i) (is i)) ∙ part_all P from)
      (λ p. let same = p.0 in let le = p.1 in let none : stop - first ≡ 0 = omega (arith, same) in
      ap (λ n. take n (drop first P)) none ∙ sym (drop_all from P (omega (arith, le, is)))) where_from

  frames_ones : (xs : List X) (ys : List (Item X)) → frames_of (map One xs ++ ys) ≡ xs ++ frames_of ys
  frames_ones [] ys = refl
  frames_ones (x ∷ xs) ys = ap (λ w. x ∷ w) (frames_ones xs ys)

  no_frame : (st : Standing) → frames_of (end_as {X = X} st) ≡ []
  no_frame live = refl
  no_frame (leaving stop end) = refl
  no_frame (gone stop end) = refl

  all_taken : (P : List X) (s : Subscription X) → s.held ≡ [] → Keeps P s → frames_of s.taken ≡ range P s
  all_taken P s none k =
      ap frames_of (sym (append-nil s.taken) ∙ ap (λ h. s.taken ++ h) (sym none) ∙ k.items)
      ∙ frames_ones (range P s) (end_as s.standing) ∙ ap (λ w. range P s ++ w) (no_frame s.standing) ∙ append-nil
      (range P s)

  got_as : (cap : ℕ) (end : End) (r : Relay X) (m : Member X) (s : Subscription X) (st : Standing)
      → s.standing ≡ st → is_gone st ≡ true → r.closed ≡ Some end
      → frames_of s.taken ≡ range_as st s.first r.published
      → StandsAs cap r m s st → Got cap r.published (turns r) end m s
  got_as cap end r m s live is gone_is closed taken h = absurd (cc (gone_is))
  got_as cap end r m s (leaving stop e) is gone_is closed taken h = absurd (cc (gone_is))
  got_as cap end r m s (gone stop e) is gone_is closed taken h = ⊎_elim
      (λ g. inl (record {
        stop = stop;
        until = g.until_is;
        within = (g.within, h.0);
        taken = taken ∙ ap (λ j. part r.published j stop) g.first_is;
        standing = is ∙ ap (λ d. gone stop d) g.end_is;
      }))
      (λ f. inr (⊎_elim
      (λ g. inl (record {
        stop = stop;
        far = g.far;
        crowded = g.crowded;
        within = (g.below, g.within);
        taken = taken ∙ ap (λ j. part r.published j stop) g.first_is;
        standing = is ∙ ap (λ d. gone stop d) g.end_is;
      }))
      (λ g. let same : Some e ≡ Some end = sym g.end_is ∙ closed in inr (record {
        within = subst (λ n. IfSome m.until (λ k. n < k)) g.stop_is g.within;
        taken = taken ∙ shut_range r.published m.from s.first stop g.stop_is g.first_is;
        standing = is ∙ (λ i. gone (g.stop_is i) ((let d : e ≡ end = cc (same) in d) i));
      })) f)) h.1

  got_seat : (cap : ℕ) (end : End) (r : Relay X) (m : Member X) (seat : Option (Subscription X))
      → r.closed ≡ Some end → MatchOption seat (Awaits r m) (IsSeated cap r m) → MatchOption seat ⊥ IsDone
      → MatchOption seat ⊥ (Got cap r.published (turns r) end m)
  got_seat cap end r m None closed h done = done
  got_seat cap end r m (Some s) closed h done = got_as cap end r m s s.standing refl done.gone_is closed
      (all_taken r.published s done.none (keeps_of cap r m s h)) h.stands

  got_all : (cap : ℕ) (end : End) (r : Relay X) (ms : List (Member X)) → r.closed ≡ Some end
      → All (Follows cap r) ms → All (λ m. MatchOption m.seat ⊥ IsDone) ms
      → All (λ m. MatchOption m.seat ⊥ (Got cap r.published (turns r) end m)) ms
  got_all cap end r [] closed all done = All-nil (λ m. MatchOption m.seat ⊥ (Got cap r.published (turns r) end m))
  got_all cap end r (m ∷ ms) closed all done =
      All-cons (λ m. MatchOption m.seat ⊥ (Got cap r.published (turns r) end m)) m ms
      (got_seat cap end r m m.seat closed (All-head (Follows cap r) m ms all).seat (All-head
      (λ m. MatchOption m.seat ⊥ IsDone) m ms done))
      (got_all cap end r ms closed (All-tail (Follows cap r) m ms all) (All-tail
      (λ m. MatchOption m.seat ⊥ IsDone) m ms done))

  pub over_tells : OverTells X
  over_tells cap frames end r s over =
      let right : (r.ended ≡ Some end) × (r.waiting ≡ []) = subst (λ o. IfSome o (λ e. (r.ended ≡ Some e) ×
      (r.waiting ≡ []))) over.closed s.closed in
      let all : frames ≡ r.published = s.parts ∙ ap (λ w. r.published ++ w) right.1 ∙ append-nil r.published in
      subst (λ F. All (λ m. MatchOption m.seat ⊥ (Got cap F (turns r) end m)) r.members) (sym all)
      (got_all cap end r r.members over.closed s.follow over.done)

  begins_nothing : (xs ys zs : List X) → Begins xs ys → ys ≡ [] → Begins xs zs
  begins_nothing [] ys zs b none = (zs, refl)
  begins_nothing (x ∷ xs) ys zs b none = absurd (let bad : (x ∷ (xs ++ b.0)) ≡ [] = sym b.1
      ∙ none in let n = ap length bad in omega (arith, n))

  begins_then : (xs ys zs : List X) → Begins xs ys → Begins ys zs → Begins xs zs
  begins_then xs ys zs b c = (b.0 ++ c.0, c.1 ∙ ap (λ w. w ++ c.0) b.1 ∙ append_assoc xs b.0 c.0)

  drop_begins : (P W F : List X) (from : ℕ) → F ≡ P ++ W → from ≤ length P → Begins (drop from P) (drop from F)
  drop_begins P W F from is le = (W, ap (drop from) is ∙ drop-append-le from P W le)

  part_begins : (P : List X) (j k : ℕ) → Begins (part P j k) (drop j P)
  part_begins P j k = (drop (k - j) (drop j P), sym (take-append-drop (k - j) (drop j P)))

  from_there : (P W F : List X) (from first stop : ℕ) (xs : List X) → F ≡ P ++ W → first ≡ from → first ≤ length P
      → Begins xs (part P first stop) → Begins xs (drop from F)
  from_there P W F from first stop xs is same le b =
      subst (λ j. Begins xs (drop j F)) same
      (begins_then xs (part P first stop) (drop first F) b (begins_then (part P first stop) (drop first P)
      (drop first F) (part_begins P first stop) (drop_begins P W F first is le)))

  ended_begins : (cap : ℕ) (F : List X) (r : Relay X) (m : Member X) (s : Subscription X) (stop : ℕ) (end : End)
      → F ≡ r.published ++ r.waiting → s.first ≤ count r
      → Begins (frames_of s.taken) (part r.published s.first stop)
      → Ended cap r m s.first stop end → Begins (frames_of s.taken) (drop m.from F)
  ended_begins cap F r m s stop end is le b e = ⊎_elim
      (λ g. from_there r.published r.waiting F m.from s.first stop (frames_of s.taken) is g.first_is le b)
      (λ f. ⊎_elim
      (λ g. from_there r.published r.waiting F m.from s.first stop (frames_of s.taken) is g.first_is le b)
      (λ g. ⊎_elim
      (λ same. from_there r.published r.waiting F m.from s.first stop (frames_of s.taken) is same le b)
      (λ p. let same = p.0 in let none : stop - s.first ≡ 0 = omega (arith, same) in
      begins_nothing (frames_of s.taken) (part r.published s.first stop) (drop m.from F) b (ap (λ n. take n
      (drop s.first r.published)) none)) g.first_is) f) e

  begins_as : (cap : ℕ) (F : List X) (r : Relay X) (m : Member X) (s : Subscription X) (st : Standing)
      → s.standing ≡ st → F ≡ r.published ++ r.waiting → s.first ≤ count r
      → Begins (frames_of s.taken) (range_as st s.first r.published)
      → StandsAs cap r m s st → Begins (frames_of s.taken) (drop m.from F)
  begins_as cap F r m s live at is le b h =
      subst (λ j. Begins (frames_of s.taken) (drop j F)) h.first_is
      (begins_then (frames_of s.taken) (drop s.first r.published) (drop s.first F) b
      (drop_begins r.published r.waiting F s.first is le))
  begins_as cap F r m s (leaving stop end) at is le b h = ended_begins cap F r m s stop end is le b h.1
  begins_as cap F r m s (gone stop end) at is le b h = ended_begins cap F r m s stop end is le b h.1

  begins_seat : (cap : ℕ) (F : List X) (r : Relay X) (m : Member X) (seat : Option (Subscription X))
      → F ≡ r.published ++ r.waiting → MatchOption seat (Awaits r m) (IsSeated cap r m)
      → MatchOption seat ⊤ (λ s. Begins (frames_of s.taken) (drop m.from F))
  begins_seat cap F r m None is h = tt
  begins_seat cap F r m (Some s) is h = begins_as cap F r m s s.standing refl is h.first (is_served r.published s
      (keeps_of cap r m s h)).begins h.stands

  pub stands_begins : StandsBegins X
  stands_begins cap F r s = All-weaker (Follows cap r) (λ m. MatchOption m.seat ⊤ (λ s. Begins (frames_of s.taken)
      (drop m.from F)))
      (λ m f. begins_seat cap F r m m.seat s.parts f.seat) r.members s.follow
