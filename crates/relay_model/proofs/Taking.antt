-- A turn begins, and drainers take what they are to.
use Rattle.std.proofs.Common.{◌≡◌, ℕ, ◌≤◌, List, ◌∷◌, ◌++◌, length, take, drop, Option, Some, None, refl, sym, ap, ◌∙◌, subst, arith, inl, inr, ⊎_elim, append_assoc, length-append, length-drop, length-take, take-append-drop}
use Rattle.std.specs.Prelude.{IfSome, MatchOption}
use Rattle.sub_queue.specs.declared.items.End.{End}
use Rattle.hub_model.specs.Hub.{Standing, live, leaving, gone, Subscription}
use Rattle.hub_model.proofs.Serving.{Keeps, StandsIn}
use Rattle.relay_model.specs.Relay.{Member, Relay, on_seat, held_in, took_first, takes, meets}
use Rattle.relay_model.specs.Standing.{IsCrowded, count, turns, Ended, StandsAs, IsSeated, Awaits, Follows}
use Rattle.relay_model.proofs.Moments.{Moment, EndedBy, Stands, Seated, Seat}
use Rattle.relay_model.proofs.Sending.{sizes}

-- the moment of a relay in a turn, where no subscriber joins or leaves at a place below k any more
abbrev pub moment : {X : Type 0} → ℕ → ℕ → ℕ → Relay X → Moment X
moment cap was k q = record {
  cap = cap;
  published = q.published;
  closed = q.closed;
  turns = q.was ∷ q.earlier;
  now = q.was;
  was = was;
  low = k;
  high = k;
}

crowded_on : (cap n p : ℕ) (began : List ℕ) → IsCrowded cap began p → IsCrowded cap (n ∷ began) p
crowded_on cap n p began c = record {
  later = n ∷ c.later;
  now = c.now;
  before = c.before;
  earlier = c.earlier;
  parts = ap (λ w. n ∷ w) c.parts;
  begun = c.begun;
  few = c.few;
}

module _ {X : Type 0} where
  abbrev pub MemberAt : Moment X → Member X → Type 0
  MemberAt t m = IfSome m.until (λ k. m.from ≤ k) × Seat t m.from m.until m.upto m.seat

  -- as a turn begins
  stands_in : (cap : ℕ) (r : Relay X) (m : Member X) (s : Subscription X) (st : Standing) → StandsAs cap r m s st
      → StandsIn (count r) st
  stands_in cap r m s live h = tt
  stands_in cap r m s (leaving stop end) h = h.0
  stands_in cap r m s (gone stop end) h = h.0

  pub keeps_of : (cap : ℕ) (r : Relay X) (m : Member X) (s : Subscription X) → IsSeated cap r m s → Keeps r.published s
  keeps_of cap r m s h = record {
    first = h.first;
    stands = stands_in cap r m s s.standing h.stands;
    items = h.items;
    cap = h.room;
  }

  ended_on : (cap n : ℕ) (r : Relay X) (m : Member X) (t : Moment X) (first stop : ℕ) (end : End) → t.cap ≡ cap
      → t.published ≡ r.published → t.closed ≡ r.closed → t.turns ≡ n ∷ turns r
      → Ended cap r m first stop end → EndedBy t m.from m.until first stop end
  ended_on cap n r m t first stop end same all closed turned e = ⊎_elim inl (λ f. inr (⊎_elim
      (λ g. inl (let lt = g.below in let far = g.far in let size = ap length all in record {
        end_is = g.end_is;
        first_is = g.first_is;
        far = omega (arith, far, same);
        crowded = subst (λ c. IsCrowded c t.turns stop) (sym same) (subst (λ w. IsCrowded cap w stop) (sym turned)
            (crowded_on cap n stop (turns r) g.crowded));
        below = omega (arith, lt, size);
        within = g.within;
      }))
      (λ g. inr (record {
        end_is = closed ∙ g.end_is;
        stop_is = g.stop_is ∙ sym
            (ap length all);
        first_is = g.first_is;
        within = g.within;
      })) f)) e

  begin_as : (cap : ℕ) (r : Relay X) (m : Member X) (t : Moment X) (s : Subscription X) (st : Standing)
      → s.standing ≡ st
      → t ≡ record { cap = cap; published = r.published; closed = r.closed; turns = count r ∷ turns r; now = count r; was = r.was; low = count r; high = count r }
      → IsSeated cap r m s → StandsAs cap r m s st → Stands t m.from m.until (length s.held) s st
  begin_as cap r m t s live is at h l =
      let size = sizes r.published s is (keeps_of cap r m s h) in let first = h.first in
      let now : t.now ≡ count r = ap (λ (z : Moment X). z.now) at in
      let was : t.was ≡ r.was = ap (λ (z : Moment X). z.was) at in record {
        first_is = l.first_is;
        opened = ap (λ (z : Moment X). z.closed) at ∙ l.opened;
        within = subst (λ n. IfSome m.until (λ k. n ≤ k)) (sym (ap (λ (z : Moment X). z.high) at)) l.within;
        took = ⊎_elim (λ e. inl (e ∙ sym was)) (λ p. inr (p.0, (let le = p.1 in omega (arith, le, was)))) l.taken_is;
        due = inl (omega (arith, size, first, now));
      }
  begin_as cap r m t s (leaving stop end) is at h e =
      ended_on cap (count r) r m t s.first stop end (ap (λ (z : Moment X). z.cap) at) (ap (λ
      (z : Moment X). z.published) at) (ap (λ (z : Moment X). z.closed) at) (ap (λ
      (z : Moment X). z.turns) at) e.1
  begin_as cap r m t s (gone stop end) is at h e =
      ended_on cap (count r) r m t s.first stop end (ap (λ (z : Moment X). z.cap) at) (ap (λ
      (z : Moment X). z.published) at) (ap (λ (z : Moment X). z.closed) at) (ap (λ
      (z : Moment X). z.turns) at) e.1

  abbrev first_moment : ℕ → Relay X → Moment X
  first_moment cap r = record { cap = cap; published = r.published; closed = r.closed; turns = count r ∷ turns r; now = count r; was = r.was; low = count r; high = count r }

  begin_seat : (cap : ℕ) (r : Relay X) (m : Member X) (seat : Option (Subscription X))
      → MatchOption seat (Awaits r m) (IsSeated cap r m)
      → Seat (first_moment cap r) m.from m.until (held_in seat) seat
  begin_seat cap r m None a = (a.0, a.1, refl)
  begin_seat cap r m (Some s) h = record {
    cap_is = h.cap_is;
    kept = keeps_of cap r m s h;
    stands = begin_as cap r m (first_moment cap r) s s.standing refl refl h h.stands;
  }

  pub begins_at : (cap : ℕ) (r : Relay X) (m : Member X) → Follows cap r m → MemberAt (first_moment cap r) (meets m)
  begins_at cap r m f = (f.range, begin_seat cap r m m.seat f.seat)

  -- as a turn ends
  takes_as : (cap was k : ℕ) (q : Relay X) (ms : List (Member X)) (m m' : Member X) (s : Subscription X) (st : Standing) → s.standing ≡ st → count q ≤ k → q.was ≤ count q → m'.from ≡ m.from → m'.until ≡ m.until
      → Seated (moment cap was k q) m.from m.until m.upto s
      → Stands (moment cap was k q) m.from m.until m.upto s st
      → StandsAs cap (record q { members = ms }) m' (took_first m.upto s) st
  takes_as cap was k q ms m m' s live is le now from until h l =
      let size = sizes q.published s is h.kept in let first = h.kept.first in record {
        first_is = l.first_is ∙ sym from;
        opened = l.opened;
        within = subst (λ u. IfSome u (λ j. count q ≤ j)) (sym until) (within_less m.until l.within);
        taken_is = ⊎_elim
            (λ e. inl (let cut = length-take m.upto s.held in let both = length-append s.taken
            (take m.upto s.held) in omega (arith, cut, both, e, size, first, now)))
            (λ p. inr (ap (λ w. w ++ take m.upto s.held) p.0 ∙ ap (λ n. take n s.held) p.1, p.2)) l.due;
      }
    where
      within_less : (u : Option ℕ) → IfSome u (λ j. k ≤ j) → IfSome u (λ j. count q ≤ j)
      within_less None h = tt
      within_less (Some j) h = omega (arith, h, le)
  takes_as cap was k q ms m m' s (leaving stop end) is le now from until h e = (
    subst (StandsIn (count q)) is h.kept.stands,
    subst (λ u. EndedBy
        (moment cap was k q) u m'.until s.first stop end) (sym from) (subst (λ u. EndedBy
        (moment cap was k q) m.from u s.first stop end) (sym until) e),
  )
  takes_as cap was k q ms m m' s (gone stop end) is le now from until h e = (
    subst (StandsIn (count q)) is h.kept.stands,
    subst (λ u. EndedBy
        (moment cap was k q) u m'.until s.first stop end) (sym from) (subst (λ u. EndedBy
        (moment cap was k q) m.from u s.first stop end) (sym until) e),
  )

  takes_seat : (cap was k : ℕ) (q : Relay X) (ms : List (Member X)) (m m' : Member X) (seat : Option (Subscription X)) → count q ≤ k → q.was ≤ count q → m'.from ≡ m.from → m'.until ≡ m.until
      → Seat (moment cap was k q) m.from m.until m.upto seat
      → MatchOption (on_seat (took_first m.upto) seat) (Awaits (record q { members = ms }) m') (IsSeated cap (record q { members = ms }) m')
  takes_seat cap was k q ms m m' None le now from until a = (let l = a.0 in omega (arith, l, le, from), a.1)
  takes_seat cap was k q ms m m' (Some s) le now from until h = record {
    cap_is = h.cap_is;
    first = h.kept.first;
    items = append_assoc s.taken (take m.upto s.held) (drop m.upto s.held) ∙ ap (λ w. s.taken ++ w)
        (take-append-drop m.upto s.held) ∙ h.kept.items;
    room = (let cut = length-drop m.upto s.held in let most = h.kept.cap in omega (arith, cut, most));
    stands = takes_as cap was k q ms m m' s s.standing refl le now from until h h.stands;
  }

  pub takes_follows : (cap was k : ℕ) (q : Relay X) (ms : List (Member X)) (m : Member X) → count q ≤ k
      → q.was ≤ count q → MemberAt (moment cap was k q) m → Follows cap (record q { members = ms }) (takes m)
  takes_follows cap was k q ms m le now at = record {
    range = at.0;
    seat = takes_seat cap was k q ms m (takes m) m.seat le now refl refl at.1;
  }
