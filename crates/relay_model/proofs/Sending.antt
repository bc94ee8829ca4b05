-- A frame is sent to a subscriber, and the hub is closed.
use Rattle.std.proofs.Common.{◌≡◌, ℕ, suc, ◌+◌, ◌-◌, ◌<◌, ◌≤◌, Bool, true, false, if◌then◌else◌, List, [], ◌∷◌, ◌++◌, length, map, drop, Option, Some, None, refl, sym, ap, ◌∙◌, subst, arith, inl, inr, ⊎_elim, append-nil, length-append, length-drop}
use Rattle.std.specs.Prelude.{IfSome}
use Rattle.std.proofs.lemmas.Bool.{ltb-false}
use Rattle.std.proofs.lemmas.List.{length-map}
use Rattle.sub_queue.specs.declared.items.End.{End}
use Rattle.sub_queue.specs.declared.items.End.TheVariants.{Lagged}
use Rattle.sub_queue.specs.declared.items.Item.TheVariants.{One, Ended}
use Rattle.hub_model.specs.Hub.{Standing, live, leaving, gone, Subscription, is_live, has_room, subscribed, sent_item, sent_frame, left, flushed, flushed_as, range_as, end_as}
use Rattle.hub_model.proofs.Serving.{Keeps, keeps_frame, keeps_left, keeps_flushed, keeps_joined}
use Rattle.relay_model.specs.Relay.{on_seat, lags, shut_at}
use Rattle.relay_model.specs.Standing.{FellBehind}
use Rattle.relay_model.proofs.Moments.{Moment, EndedBy, LiveAt, Stands, Seated, Seat}

pub above_all : (until : Option ℕ) (n h : ℕ) → h ≡ suc n → IfSome until (λ k. h ≤ k) → IfSome until (λ k. n < k)
above_all None n h is le = tt
above_all (Some k) n h is le = omega (arith, is, le)

behind_all : (until : Option ℕ) (n from : ℕ) → suc n ≤ from → IfSome until (λ k. from ≤ k) → IfSome until (λ k. n < k)
behind_all None n from lt le = tt
behind_all (Some k) n from lt le = omega (arith, lt, le)

module _ {X : Type 0} where
  -- what was taken from a live one and what its queue holds are as many as were published since it came
  pub sizes : (all : List X) (s : Subscription X) → s.standing ≡ live → Keeps all s
      → length s.taken + length s.held ≡ length all - s.first
  sizes all s is k =
      let items = k.items ∙ ap (λ st. map One (range_as st s.first all) ++ end_as st) is ∙ append-nil (map One
      (drop s.first all)) in
      sym (length-append s.taken s.held) ∙ ap length items ∙ length-map (drop s.first all) One ∙ length-drop s.first all

  abbrev pub with_frame : X → Moment X → Moment X
  with_frame x t = record t { published = t.published ++ x ∷ [] }

  ended_grows : (t : Moment X) (x : X) (from : ℕ) (until : Option ℕ) (first stop : ℕ) (end : End) → t.closed ≡ None
      → EndedBy t from until first stop end → EndedBy (with_frame x t) from until first stop end
  ended_grows t x from until first stop end opened e = ⊎_elim inl (λ f. inr (⊎_elim
      (λ g. inl (let long = length-append t.published (x ∷ []) in let b = g.below in record {
        end_is = g.end_is;
        first_is = g.first_is;
        far = g.far;
        crowded = g.crowded;
        below = omega (arith, long, b);
        within = g.within;
      }))
      (λ g. absurd (let bad : Some end ≡ None = sym g.end_is ∙ opened in cc (bad))) f)) e

  -- who is live and has room is sent it, and who isn't live stays
  sends_as : (t : Moment X) (x : X) (from : ℕ) (until : Option ℕ) (upto : ℕ) (s : Subscription X) (st : Standing)
      → s.standing ≡ st → t.closed ≡ None → (is_live s.standing ≡ true → has_room s ≡ true)
      → Seated t from until upto s → Stands t from until upto s st
      → Seated (with_frame x t) from until upto (if is_live st then sent_item (One x) s else s)
  sends_as t x from until upto s live is opened room h l = record {
    cap_is = h.cap_is;
    kept = subst (λ st. Keeps (t.published ++ x ∷ []) (if is_live st then sent_item (One x) s else s)) is
        (keeps_frame t.published x s room h.kept);
    stands = subst (Stands (with_frame x t) from until upto (sent_item (One x) s)) (sym is)
        (record { first_is = l.first_is; opened = l.opened; within = l.within; took = l.took; due = l.due });
  }
  sends_as t x from until upto s (leaving stop end) is opened room h e = record {
    cap_is = h.cap_is;
    kept = subst (λ st. Keeps (t.published ++ x ∷ []) (if is_live st then sent_item (One x) s else s)) is
        (keeps_frame t.published x s room h.kept);
    stands = subst (Stands (with_frame x t) from until upto s) (sym is)
        (ended_grows t x from until s.first stop end opened e);
  }
  sends_as t x from until upto s (gone stop end) is opened room h e = record {
    cap_is = h.cap_is;
    kept = subst (λ st. Keeps (t.published ++ x ∷ []) (if is_live st then sent_item (One x) s else s)) is
        (keeps_frame t.published x s room h.kept);
    stands = subst (Stands (with_frame x t) from until upto s) (sym is)
        (ended_grows t x from until s.first stop end opened e);
  }

  -- who is live and has no room is left behind
  falls : (t : Moment X) (x : X) (earlier : List ℕ) (from : ℕ) (until : Option ℕ) (upto : ℕ) (s : Subscription X)
      → s.standing ≡ live → s.cap ≤ length s.held
      → t.turns ≡ t.now ∷ t.was ∷ earlier → t.now ≤ length t.published → t.high ≡ suc (length t.published)
      → Seated t from until upto s → LiveAt t from until upto s
      → FellBehind t.cap (length (t.published ++ x ∷ [])) t.turns from until s.first (length t.published) Lagged
  falls t x earlier from until upto s is full turns now high h l =
      let size = sizes t.published s is h.kept in
      let first = h.kept.first in let cap = h.cap_is in let long = length-append t.published
      (x ∷ []) in let came = l.first_is in record {
        end_is = refl;
        first_is = l.first_is;
        far = omega (arith, size, first, cap, full, came);
        crowded = record {
          later = [];
          now = t.now;
          before = t.was;
          earlier = earlier;
          parts = turns;
          begun = now;
          few = ⊎_elim (λ e. omega (arith, size, first, cap, full, e)) (λ p. let q = p.1 in omega
              (arith, size, first, cap, full, q)) l.took;
        };
        below = omega (arith, long);
        within = above_all until (length t.published) t.high high l.within;
      }

  lags_as : (t : Moment X) (x : X) (earlier : List ℕ) (from : ℕ) (until : Option ℕ) (upto : ℕ) (s : Subscription X) (st : Standing) → s.standing ≡ st → s.cap ≤ length s.held
      → t.turns ≡ t.now ∷ t.was ∷ earlier → t.now ≤ length t.published → t.high ≡ suc (length t.published)
      → t.closed ≡ None → Seated t from until upto s → Stands t from until upto s st
      → Seated (with_frame x t) from until upto (sent_frame x (if is_live st then record s { standing = leaving (length t.published) Lagged } else s))
  lags_as t x earlier from until upto s live is full turns now high opened h l =
      let gone_off : Subscription X = record s { standing = leaving (length t.published) Lagged } in
      let k : Keeps t.published gone_off = subst (λ st. Keeps t.published
      (if is_live st then record s { standing = leaving (length t.published) Lagged } else s)) is
      (keeps_left t.published Lagged s h.kept) in record {
        cap_is = h.cap_is;
        kept = keeps_frame t.published x gone_off (λ on. absurd (cc (on))) k;
        stands = inr (inl (falls t x earlier from until upto s is full turns now high h l));
      }
  lags_as t x earlier from until upto s (leaving stop end) is full turns now high opened h e =
      sends_as t x from until upto s s.standing refl opened (λ on. absurd (let bad : true ≡ false = sym on
      ∙ ap is_live is in cc (bad))) h h.stands
  lags_as t x earlier from until upto s (gone stop end) is full turns now high opened h e =
      sends_as t x from until upto s s.standing refl opened (λ on. absurd (let bad : true ≡ false = sym on
      ∙ ap is_live is in cc (bad))) h h.stands

  sends_if : (t : Moment X) (x : X) (earlier : List ℕ) (from : ℕ) (until : Option ℕ) (upto : ℕ) (s : Subscription X) (b : Bool) → has_room s ≡ b
      → t.turns ≡ t.now ∷ t.was ∷ earlier → t.now ≤ length t.published → t.high ≡ suc (length t.published)
      → t.closed ≡ None → Seated t from until upto s
      → Seated (with_frame x t) from until upto (sent_frame x (if b then s else left (length t.published) Lagged s))
  sends_if t x earlier from until upto s true room turns now high opened h = sends_as t x from until upto s s.standing refl opened (λ on. room) h h.stands
  sends_if t x earlier from until upto s false room turns now high opened h =
      lags_as t x earlier from until upto s s.standing refl (ltb-false
      (length s.held) s.cap room) turns now high opened h h.stands

  pub sends : (t : Moment X) (x : X) (earlier : List ℕ) (from : ℕ) (until : Option ℕ) (upto : ℕ) (seat : Option (Subscription X))
      → t.turns ≡ t.now ∷ t.was ∷ earlier → t.now ≤ length t.published → t.high ≡ suc (length t.published)
      → t.closed ≡ None → Seat t from until upto seat
      → Seat (with_frame x t) from until upto (on_seat (λ s. sent_frame x (lags (length t.published) s)) seat)
  sends t x earlier from until upto None turns now high opened h = h
  sends t x earlier from until upto (Some s) turns now high opened h = sends_if t x earlier from until upto s
      (has_room s) refl turns now high opened h

  abbrev pub shut_by : End → Moment X → Moment X
  shut_by e t = record t { closed = Some e }

  ended_shut : (t : Moment X) (e : End) (from : ℕ) (until : Option ℕ) (first stop : ℕ) (end : End)
      → t.closed ≡ None → EndedBy t from until first stop end → EndedBy (shut_by e t) from until first stop end
  ended_shut t e from until first stop end opened h = ⊎_elim inl (λ f. inr (⊎_elim inl
      (λ g. absurd (let bad : Some end ≡ None = sym g.end_is ∙ opened in cc (bad))) f)) h

  shuts_as : (t : Moment X) (e : End) (from : ℕ) (until : Option ℕ) (upto : ℕ) (s : Subscription X) (st : Standing)
      → s.standing ≡ st → t.high ≡ suc (length t.published) → t.closed ≡ None
      → Seated t from until upto s → Stands t from until upto s st
      → Seated (shut_by e t) from until upto (if is_live st then record s { standing = leaving (length t.published) e } else s)
  shuts_as t e from until upto s live is high opened h l = record {
    cap_is = h.cap_is;
    kept = subst (λ st. Keeps t.published (if is_live st then record s {
      standing = leaving
          (length t.published) e;
    } else s)) is (keeps_left t.published e s h.kept);
    stands = inr (inr (record {
      end_is = refl;
      stop_is = refl;
      first_is = inl l.first_is;
      within = above_all until
          (length t.published) t.high high l.within;
    }));
  }
  shuts_as t e from until upto s (leaving stop end) is high opened h g = record {
    cap_is = h.cap_is;
    kept = h.kept;
    stands = subst (Stands (shut_by e t) from until upto s) (sym is)
        (ended_shut t e from until s.first stop end opened g);
  }
  shuts_as t e from until upto s (gone stop end) is high opened h g = record {
    cap_is = h.cap_is;
    kept = h.kept;
    stands = subst (Stands (shut_by e t) from until upto s) (sym is)
        (ended_shut t e from until s.first stop end opened g);
  }

  pub shuts_seat : (t : Moment X) (e : End) (from : ℕ) (until : Option ℕ) (upto : ℕ) (seat : Option (Subscription X)) → t.low ≡ suc (length t.published) → t.high ≡ suc (length t.published) → t.closed ≡ None
      → IfSome until (λ k. from ≤ k) → Seat t from until upto seat
      → Seat (shut_by e t) from until upto (shut_at t.cap (length t.published) e seat)
  shuts_seat t e from until upto None low high opened range a =
      let l = a.0 in
      let lt : suc (length t.published) ≤ from = omega (arith, l, low) in record {
        cap_is = refl;
        kept = keeps_left t.published e (subscribed (length t.published) t.cap) (keeps_joined t.published t.cap);
        stands = inr (inr (record {
          end_is = refl;
          stop_is = refl;
          first_is = inr (
            refl,
            omega
                (arith, lt),
          );
          within = behind_all until (length t.published) from lt range;
        }));
      }
  shuts_seat t e from until upto
      (Some s) low high opened range h = shuts_as t e from until upto s s.standing refl high opened h h.stands

  flushes_if : (t : Moment X) (from : ℕ) (until : Option ℕ) (upto : ℕ) (n : ℕ) (e : End) (s : Subscription X) (b : Bool) → s.standing ≡ leaving n e → Keeps t.published (if b then record s { standing = gone n e; held = s.held ++ Ended e ∷ [] } else s)
      → Seated t from until upto s → EndedBy t from until s.first n e
      → Seated t from until upto (if b then record s { standing = gone n e; held = s.held ++ Ended e ∷ [] } else s)
  flushes_if t from until upto n e s true is k h g = record { cap_is = h.cap_is; kept = k; stands = g }
  flushes_if t from until upto n e s false is k h g = h

  flushes_as : (t : Moment X) (from : ℕ) (until : Option ℕ) (upto : ℕ) (s : Subscription X) (st : Standing)
      → s.standing ≡ st → Seated t from until upto s → Stands t from until upto s st
      → Keeps t.published (flushed_as st s) → Seated t from until upto (flushed_as st s)
  flushes_as t from until upto s live is h l k = h
  flushes_as t from until upto s (gone n e) is h l k = h
  flushes_as t from until upto s (leaving n e) is h l k = flushes_if t from until upto n e s (has_room s) is k h l

  pub flushes : (t : Moment X) (from : ℕ) (until : Option ℕ) (upto : ℕ) (seat : Option (Subscription X))
      → Seat t from until upto seat → Seat t from until upto (on_seat flushed seat)
  flushes t from until upto None h = h
  flushes t from until upto (Some s) h = flushes_as t from until upto s s.standing refl h h.stands
      (keeps_flushed t.published s h.kept)
