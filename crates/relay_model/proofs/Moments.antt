-- What holds of a subscriber within a turn.
use Rattle.std.proofs.Common.{◌≡◌, ◌⊎◌, ℕ, suc, ◌+◌, ◌≤◌, Bool, true, false, nat_lt, if◌then◌else◌, List, [], length, Option, Some, None, refl, sym, ap, subst, arith, inl, inr}
use Rattle.std.specs.Prelude.{IfSome, MatchOption, ◌==◌}
use Rattle.std.proofs.lemmas.Bool.{ltb-true, ltb-false, eqb-true, eqb-false}
use Rattle.sub_queue.specs.declared.items.End.{End}
use Rattle.sub_queue.specs.declared.items.End.TheVariants.{Left}
use Rattle.hub_model.specs.Hub.{Standing, live, leaving, gone, Subscription, is_live, subscribed, left}
use Rattle.hub_model.proofs.Serving.{Keeps, keeps_left, keeps_joined}
use Rattle.relay_model.specs.Relay.{on_seat, joined_at, left_at}
use Rattle.relay_model.specs.Standing.{Reached, FellBehind, WasShut}

-- a moment of a turn: the cap, what is published, whether the hub is closed, how many were published as turns began, as
-- this one and the last one began, and the least places that a subscriber may still join or leave at
pub record Moment (X : Type 0) : Type 0 where
  pub cap : ℕ
  pub published : List X
  pub closed : Option End
  pub turns : List ℕ
  pub now : ℕ
  pub was : ℕ
  pub low : ℕ
  pub high : ℕ

module _ {X : Type 0} where
  abbrev pub EndedBy : Moment X → ℕ → Option ℕ → ℕ → ℕ → End → Type 0
  EndedBy t from until first stop end =
      Reached from until first stop end
      ⊎ FellBehind t.cap (length t.published) t.turns from until first stop end
      ⊎ WasShut (length t.published) t.closed from until first stop end

  pub record LiveAt (t : Moment X) (from : ℕ) (until : Option ℕ) (upto : ℕ) (s : Subscription X) : Type 0 where
    pub first_is : s.first ≡ from
    pub opened : t.closed ≡ None
    pub within : IfSome until (λ k. t.high ≤ k)
    pub took : (length s.taken + s.first ≡ t.was) ⊎ ((s.taken ≡ []) × (t.was ≤ s.first))
    pub due : (length s.taken + upto + s.first ≡ t.now) ⊎ ((s.taken ≡ []) × (upto ≡ 0) × (t.now ≤ s.first))

  abbrev pub Stands : Moment X → ℕ → Option ℕ → ℕ → Subscription X → Standing → Type 0
  Stands t from until upto s live = LiveAt t from until upto s
  Stands t from until upto s (leaving stop end) = EndedBy t from until s.first stop end
  Stands t from until upto s (gone stop end) = EndedBy t from until s.first stop end

  pub record Seated (t : Moment X) (from : ℕ) (until : Option ℕ) (upto : ℕ) (s : Subscription X) : Type 0 where
    pub cap_is : s.cap ≡ t.cap
    pub kept : Keeps t.published s
    pub stands : Stands t from until upto s s.standing

  abbrev pub Awaiting : Moment X → ℕ → ℕ → Type 0
  Awaiting t from upto = (t.low ≤ from) × (t.closed ≡ None) × (upto ≡ 0)

  abbrev pub Seat : Moment X → ℕ → Option ℕ → ℕ → Option (Subscription X) → Type 0
  Seat t from until upto seat = MatchOption seat (Awaiting t from upto) (Seated t from until upto)

  -- from one moment to another
  pub stands_on : (t t' : Moment X) (from : ℕ) (until : Option ℕ) (upto : ℕ) (s : Subscription X) (st : Standing)
      → (LiveAt t from until upto s → LiveAt t' from until upto s)
      → ((stop : ℕ) (end : End) → EndedBy t from until s.first stop end → EndedBy t' from until s.first stop end)
      → Stands t from until upto s st → Stands t' from until upto s st
  stands_on t t' from until upto s live f g h = f h
  stands_on t t' from until upto s (leaving stop end) f g h = g stop end h
  stands_on t t' from until upto s (gone stop end) f g h = g stop end h

  -- who begins here joins
  joins_if : (t : Moment X) (from : ℕ) (until : Option ℕ) (upto : ℕ) (b : Bool) → (from == length t.published) ≡ b
      → t.low ≡ length t.published → t.high ≡ length t.published
      → t.now ≤ length t.published → t.was ≤ length t.published → IfSome until (λ k. from ≤ k)
      → Awaiting t from upto
      → Seat (record t { low = suc (length t.published) }) from until upto (if b then Some (subscribed (length t.published) t.cap) else None)
  joins_if t from until upto true is low high now was range a =
      let here : from ≡ length t.published = eqb-true from (length t.published) is in record {
        cap_is = refl;
        kept = keeps_joined t.published t.cap;
        stands = record {
          first_is = sym here;
          opened = a.1;
          within = within_from until (omega (arith, here, high)) range;
          took = inr (refl, was);
          due = inr (refl, a.2, now);
        };
      }
    where
      within_from : (until : Option ℕ) → t.high ≤ from → IfSome until (λ k. from ≤ k) → IfSome until (λ k. t.high ≤ k)
      within_from None le range = tt
      within_from (Some k) le range = omega (arith, le, range)
  joins_if t from until upto false is low high now was range a = (
    above (nat_lt
        (length t.published) from) refl,
    a.1,
    a.2,
  )
    where
      above : (b : Bool) → nat_lt (length t.published) from ≡ b → suc (length t.published) ≤ from
      above true e = let lt = ltb-true (length t.published) from e in omega (arith, lt)
      above false e = let ge = ltb-false (length t.published) from e in let le = a.0 in absurd (eqb-false from
          (length t.published) is (omega (arith, ge, le, low)))

  pub joins : (t : Moment X) (from : ℕ) (until : Option ℕ) (upto : ℕ) (seat : Option (Subscription X))
      → t.low ≡ length t.published → t.high ≡ length t.published → t.now ≤ length t.published
      → t.was ≤ length t.published
      → IfSome until (λ k. from ≤ k) → Seat t from until upto seat
      → Seat (record t { low = suc (length t.published) }) from until upto (joined_at t.cap (length t.published) from seat)
  joins t from until upto None low high now was range a = joins_if t from until upto
      (from == length t.published) refl low high now was range a
  joins t from until upto (Some s) low high now was range h = record {
    cap_is = h.cap_is;
    kept = h.kept;
    stands = stands_on t (record t { low = suc (length t.published) }) from until upto s s.standing
        (λ l. record { first_is = l.first_is; opened = l.opened; within = l.within; took = l.took; due = l.due })
        (λ stop end e. e) h.stands;
  }

  abbrev left_behind : Moment X → Moment X
  left_behind t = record t { high = suc (length t.published) }

  -- who isn't live is as before
  left_as : (t : Moment X) (from k : ℕ) (upto : ℕ) (s : Subscription X) (st : Standing) → s.standing ≡ st
      → k ≡ length t.published → from ≤ k
      → Seated t from (Some k) upto s → Stands t from (Some k) upto s st
      → Seated (left_behind t) from (Some k) upto (if is_live st then record s { standing = leaving (length t.published) Left } else s)
  left_as t from k upto s live is here range h l = record {
    cap_is = h.cap_is;
    kept = subst (λ st. Keeps t.published (if is_live st then record s {
      standing = leaving
          (length t.published) Left;
    } else s)) is (keeps_left t.published Left s h.kept);
    stands = inl (record {
      end_is = refl;
      until_is = ap Some here;
      first_is = l.first_is;
      within = omega
          (arith, range, here);
    });
  }
  left_as t from k upto s (leaving stop end) is here range h e = record {
    cap_is = h.cap_is;
    kept = h.kept;
    stands = subst (Stands (left_behind t) from (Some k) upto s) (sym is) e;
  }
  left_as t from k upto s (gone stop end) is here range h e = record {
    cap_is = h.cap_is;
    kept = h.kept;
    stands = subst (Stands (left_behind t) from (Some k) upto s) (sym is) e;
  }

  stays : (t : Moment X) (from : ℕ) (until : Option ℕ) (upto : ℕ) (s : Subscription X)
      → (IfSome until (λ k. t.high ≤ k) → IfSome until (λ k. suc (length t.published) ≤ k))
      → Seated t from until upto s → Seated (left_behind t) from until upto s
  stays t from until upto s on h = record {
    cap_is = h.cap_is;
    kept = h.kept;
    stands = stands_on t (left_behind t) from until upto s s.standing
        (λ l. record { first_is = l.first_is; opened = l.opened; within = on l.within; took = l.took; due = l.due })
        (λ stop end e. e) h.stands;
  }

  leaves_if : (t : Moment X) (from k : ℕ) (upto : ℕ) (b : Bool) (seat : Option (Subscription X))
      → (k == length t.published) ≡ b → t.high ≡ length t.published → from ≤ k → Seat t from (Some k) upto seat
      → Seat (left_behind t) from (Some k) upto (if b then on_seat (left (length t.published) Left) seat else seat)
  leaves_if t from k upto true None is high range h = h
  leaves_if t from k upto false None is high range h = h
  leaves_if t from k upto true (Some s) is high range h = left_as t from k upto s s.standing refl (eqb-true k
      (length t.published) is) range h h.stands
  leaves_if t from k upto false (Some s) is high range h = stays t from (Some k) upto s (λ le. above (nat_lt
      (length t.published) k) refl le) h
    where
      above : (b : Bool) → nat_lt (length t.published) k ≡ b → t.high ≤ k → suc (length t.published) ≤ k
      above true e le = let lt = ltb-true (length t.published) k e in omega (arith, lt)
      above false e le = let ge = ltb-false (length t.published) k e in absurd (eqb-false k (length t.published) is
          (omega (arith, ge, le, high)))

  pub leaves : (t : Moment X) (from : ℕ) (until : Option ℕ) (upto : ℕ) (seat : Option (Subscription X))
      → t.high ≡ length t.published → IfSome until (λ k. from ≤ k)
      → Seat t from until upto seat → Seat (left_behind t) from until upto (left_at (length t.published) until seat)
  leaves t from None upto None high range h = h
  leaves t from None upto (Some s) high range h = stays t from None upto s (λ x. tt) h
  leaves t from (Some k) upto seat high range h = leaves_if t from k upto
      (k == length t.published) seat refl high range h
