-- A turn keeps what a relay stands for.
use Rattle.std.proofs.Common.{◌≡◌, ◌⊎◌, ℕ, suc, ◌≤◌, Bool, true, false, if◌then◌else◌, List, [], ◌∷◌, ◌++◌, map, Option, Some, None, All, refl, sym, ap, ◌∙◌, subst, arith, inl, inr, ⊎_elim, append_assoc, length-append}
use Rattle.std.specs.Prelude.{IfSome}
use Rattle.std.proofs.lemmas.List.Elements.{All-weaker, All-map}
use Rattle.sub_queue.specs.declared.items.End.{End}
use Rattle.hub_model.specs.Hub.{flushed}
use Rattle.relay_model.specs.Relay.{Setting, Member, Relay, first_of, seated, arrives, joined_at, sent_or_lags, arrived, sent, publish, waits, shut, shut_if, shuts, meets, begins, takes}
use Rattle.relay_model.specs.Standing.{count, Follows}
use Rattle.relay_model.specs.Laws.{TurnStands}
use Rattle.relay_model.proofs.Moments.{joins, leaves}
use Rattle.relay_model.proofs.Sending.{with_frame, sends, shut_by, shuts_seat, flushes}
use Rattle.relay_model.proofs.Taking.{moment, MemberAt, begins_at, takes_follows}

-- what holds within a turn, where no subscriber joins or leaves at a place below k any more
record InTurn {X : Type 0} (cap was : ℕ) (earlier : List ℕ) (k : ℕ) (q : Relay X) : Type 0 where
  pub marks : q.earlier ≡ was ∷ earlier
  pub now : q.was ≤ count q
  pub before : was ≤ count q
  pub all : All (MemberAt (moment cap was k q)) q.members

-- what was done where frames were to be published
record Publishes {X : Type 0} (cap was : ℕ) (earlier : List ℕ) (xs : List X) (q p : Relay X) : Type 0 where
  pub inside : InTurn cap was earlier (suc (count p)) p
  pub parts : q.published ++ xs ≡ p.published ++ p.waiting
  pub ended : p.ended ≡ q.ended
  pub closed : p.closed ≡ q.closed
  pub none : xs ≡ [] → p.waiting ≡ []

ended_still : (o : Option End) (end : Option End) (e : End) → o ≡ Some e → first_of o end ≡ Some e
ended_still None end e is = absurd (cc (is))
ended_still (Some d) end e is = is

module _ {X : Type 0} where
  arrives_at : (cap was k : ℕ) (q : Relay X) (m : Member X) → k ≡ count q → q.was ≤ count q → was ≤ count q
      → MemberAt (moment cap was k q) m
      → MemberAt (moment cap was (suc (count q)) q) (arrives cap (count q) m)
  arrives_at cap was k q m is now before at =
      let t = moment cap was k q in (
        at.0,
        leaves (record t { low = suc (count q) }) m.from m.until m.upto (joined_at cap (count q) m.from m.seat) is at.0
            (joins t m.from m.until m.upto m.seat is is now before at.0 at.1),
      )

  all_arrive : (cap was k : ℕ) (q : Relay X) → k ≡ count q → q.was ≤ count q → was ≤ count q
      → All (MemberAt (moment cap was k q)) q.members
      → All (MemberAt (moment cap was (suc (count q)) q)) (map (arrives cap (count q)) q.members)
  all_arrive cap was k q is now before all = All-map (MemberAt (moment cap was (suc (count q)) q)) (arrives cap
      (count q)) q.members
      (All-weaker (MemberAt (moment cap was k q)) (λ m. MemberAt (moment cap was (suc (count q)) q) (arrives cap
      (count q) m)) (λ m at. arrives_at cap was k q m is now before at) q.members all)

  sends_all : (cap was : ℕ) (earlier : List ℕ) (x : X) (q : Relay X) → q.closed ≡ None
      → InTurn cap was earlier (suc (count q)) q → InTurn cap was earlier (suc (count q)) (sent x q)
  sends_all cap was earlier x q opened t =
      let long = length-append q.published (x ∷ []) in let now = t.now in let before = t.before in
      let here = moment cap was (suc (count q)) q in record {
        marks = t.marks;
        now = omega (arith, long, now);
        before = omega (arith, long, before);
        all = All-map (MemberAt (with_frame x here)) (sent_or_lags (count q) x) q.members
            (All-weaker (MemberAt here) (λ m. MemberAt (with_frame x here) (sent_or_lags (count q) x m))
            (λ m at. (
              at.0,
              sends here x earlier m.from m.until m.upto m.seat (ap
                  (λ w. q.was ∷ w) t.marks) now refl opened at.1,
            )) q.members t.all);
      }

  publishes_if : (set : Setting) (was : ℕ) (earlier : List ℕ) (x : X) (xs : List X) (q : Relay X) (b : Bool)
      → InTurn set.cap was earlier (suc (count q)) (arrived set.cap q)
      → Publishes set.cap was earlier xs (sent x (arrived set.cap q)) (publish set xs (sent x (arrived set.cap q)))
      → Publishes set.cap was earlier (x ∷ xs) q (if b then record (arrived set.cap q) { waiting = x ∷ xs } else publish set xs (sent x (arrived set.cap q)))
  publishes_if set was earlier x xs q true a h = record {
    inside = record { marks = a.marks; now = a.now; before = a.before; all = a.all };
    parts = refl;
    ended = refl;
    closed = refl;
    none = λ bad. absurd (cc (bad));
  }
  publishes_if set was earlier x xs q false a h = record {
    inside = h.inside;
    parts = sym (append_assoc q.published (x ∷ []) xs) ∙ h.parts;
    ended = h.ended;
    closed = h.closed;
    none = λ bad. absurd (cc (bad));
  }

  publishes : (set : Setting) (was : ℕ) (earlier : List ℕ) (xs : List X) (q : Relay X) (k : ℕ) → k ≡ count q
      → (q.closed ≡ None) ⊎ (xs ≡ []) → InTurn set.cap was earlier k q
      → Publishes set.cap was earlier xs q (publish set xs q)
  publishes set was earlier [] q k is opened t = record {
    inside = record { marks = t.marks; now = t.now; before = t.before; all = all_arrive set.cap was k q is t.now t.before t.all };
    parts = refl;
    ended = refl;
    closed = refl;
    none = λ e. refl;
  }
  publishes set was earlier (x ∷ xs) q k is opened t =
      let none : q.closed ≡ None = ⊎_elim (λ e. e) (λ bad. absurd (cc (bad))) opened in
      let a : InTurn set.cap was earlier (suc (count q))
      (arrived set.cap q) = record { marks = t.marks; now = t.now; before = t.before; all = all_arrive set.cap was k q is t.now t.before t.all } in
      publishes_if set was earlier x xs q (waits set.slow (arrived set.cap q).members) a
      (publishes set was earlier xs (sent x (arrived set.cap q)) (suc (count q))
      (let long = length-append q.published (x ∷ []) in omega (arith, long)) (inl none)
      (sends_all set.cap was earlier x (arrived set.cap q) none a))

  -- the hub is closed only where nothing waits
  abbrev IsShutRight : Relay X → Type 0
  IsShutRight q = IfSome q.closed (λ e. (q.ended ≡ Some e) × (q.waiting ≡ []))

  -- the same frames, and the hub may be closed
  record Shuts (cap was : ℕ) (earlier : List ℕ) (p q : Relay X) : Type 0 where
    pub inside : InTurn cap was earlier (suc (count q)) q
    pub published : q.published ≡ p.published
    pub waiting : q.waiting ≡ p.waiting
    pub closed : IsShutRight q

  shuts_all : (cap was : ℕ) (earlier : List ℕ) (e : End) (p : Relay X) → p.ended ≡ Some e → p.waiting ≡ []
      → p.closed ≡ None → InTurn cap was earlier (suc (count p)) p → Shuts cap was earlier p (shut cap e p)
  shuts_all cap was earlier e p ended waiting opened t =
      let here = moment cap was (suc (count p)) p in record {
        inside = record {
          marks = t.marks;
          now = t.now;
          before = t.before;
          all = All-map (MemberAt (shut_by e here)) (shuts cap (count p) e) p.members
              (All-weaker (MemberAt here) (λ m. MemberAt (shut_by e here) (shuts cap (count p) e m))
              (λ m at.
              (at.0, shuts_seat here e m.from m.until m.upto m.seat refl refl opened at.0 at.1)) p.members t.all);
        };
        published = refl;
        waiting = refl;
        closed = (ended, waiting);
      }

  shuts_if : (cap was : ℕ) (earlier : List ℕ) (o : Option End) (w : List X) (c : Option End) (p : Relay X)
      → p.ended ≡ o → p.waiting ≡ w → p.closed ≡ c → IsShutRight p
      → InTurn cap was earlier (suc (count p)) p → Shuts cap was earlier p (shut_if cap o w c p)
  shuts_if cap was earlier None w c p ended waiting closed right t = record { inside = t; published = refl; waiting = refl; closed = right }
  shuts_if cap was earlier (Some e)
      (x ∷ xs) c p ended waiting closed right t = record { inside = t; published = refl; waiting = refl; closed = right }
  shuts_if cap was earlier (Some e) []
      (Some d) p ended waiting closed right t = record { inside = t; published = refl; waiting = refl; closed = right }
  shuts_if cap was earlier
      (Some e) [] None p ended waiting closed right t = shuts_all cap was earlier e p ended waiting closed t

  flush_all : (cap was k : ℕ) (q : Relay X) → All (MemberAt (moment cap was k q)) q.members
      → All (MemberAt (moment cap was k q)) (map (seated flushed) q.members)
  flush_all cap was k q all = All-map (MemberAt (moment cap was k q)) (seated flushed) q.members
      (All-weaker (MemberAt (moment cap was k q)) (λ m. MemberAt (moment cap was k q) (seated flushed m)) (λ m at.
      (at.0, flushes (moment cap was k q) m.from m.until m.upto m.seat at.1)) q.members all)

  takes_all : (cap was k : ℕ) (q : Relay X) (ms : List (Member X)) → count q ≤ k → q.was ≤ count q
      → All (MemberAt (moment cap was k q)) ms
      → All (Follows cap (record q { members = map takes ms })) (map takes ms)
  takes_all cap was k q ms le now all = All-map (Follows cap (record q { members = map takes ms })) takes ms
      (All-weaker (MemberAt (moment cap was k q)) (λ m. Follows cap (record q { members = map takes ms }) (takes m))
      (λ m at. takes_follows cap was k q (map takes ms) m le now at) ms all)

  -- a closed hub has nothing to publish
  nothing_more : (c : Option End) (ended : Option End) (waiting given : List X)
      → IfSome c (λ e. (ended ≡ Some e) × (waiting ≡ [])) → IfSome ended (λ e. given ≡ [])
      → (c ≡ None) ⊎ (waiting ++ given ≡ [])
  nothing_more None ended waiting given h g = inl refl
  nothing_more (Some e) ended waiting given h g =
      let none : given ≡ [] = subst (λ o. IfSome o (λ z. given ≡ [])) h.0 g in
      inr (ap (λ w. w ++ given) h.1 ∙ none)

  right_still : (c pc : Option End) (ended pe end : Option End) (waiting given pw : List X)
      → IfSome c (λ e. (ended ≡ Some e) × (waiting ≡ [])) → IfSome ended (λ e. given ≡ [])
      → pc ≡ c → pe ≡ first_of ended end → (waiting ++ given ≡ [] → pw ≡ [])
      → IfSome pc (λ e. (pe ≡ Some e) × (pw ≡ []))
  right_still None pc ended pe end waiting given pw h g is ended_is none = subst (λ o. IfSome o (λ e.
      (pe ≡ Some e) × (pw ≡ []))) (sym is) tt
  right_still (Some e) pc ended pe end waiting given pw h g is ended_is none =
      let nil : given ≡ [] = subst (λ o. IfSome o (λ z. given ≡ [])) h.0 g in
      subst (λ o. IfSome o (λ z. (pe ≡ Some z) × (pw ≡ []))) (sym is)
      (ended_is ∙ ended_still ended end e h.0, none (ap (λ w. w ++ given) h.1 ∙ nil))

  begin_all : (cap : ℕ) (end : Option End) (r : Relay X) → All (Follows cap r) r.members → r.was ≤ count r
      → InTurn cap r.was r.earlier (count r) (begins end r)
  begin_all cap end r all before = record {
    marks = refl;
    now = omega arith;
    before = before;
    all = All-map (MemberAt (moment cap r.was (count r) (begins end r))) meets r.members
        (All-weaker (Follows cap r) (λ m. MemberAt (moment cap r.was (count r) (begins end r)) (meets m))
        (λ m f. begins_at cap r m f) r.members all);
  }

  pub turn_stands : TurnStands X
  turn_stands set frames given end r s none =
      let q0 = begins end r in
      let xs = r.waiting ++ given in
      let p = publish set xs q0 in
      let done = publishes set r.was r.earlier xs q0 (count r) refl
      (nothing_more r.closed r.ended r.waiting given s.closed none)
      (begin_all set.cap end r s.follow s.before) in
      let q = shut_if set.cap p.ended p.waiting p.closed p in
      let shut_now = shuts_if set.cap r.was r.earlier p.ended p.waiting p.closed p refl refl refl
      (right_still r.closed p.closed r.ended p.ended end r.waiting given p.waiting s.closed none done.closed done.ended done.none) done.inside in
      let inside = shut_now.inside in
      let now = inside.now in record {
        parts = ap (λ w. w ++ given) s.parts ∙ append_assoc r.published r.waiting given ∙ done.parts ∙
            (λ i. sym shut_now.published i ++ sym shut_now.waiting i);
        before = now;
        closed = shut_now.closed;
        follow = takes_all set.cap r.was (suc (count q)) q (map (seated flushed) q.members) (omega arith) now
            (flush_all set.cap r.was (suc (count q)) q inside.all);
      }
