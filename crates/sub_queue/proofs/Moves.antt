-- Each move of an end keeps the rule of the queue's items.
use Rattle.std.proofs.Common.{◌≡◌, ◌≢◌, ℕ, ◌+◌, ◌≤◌, true, false, true≢false, List, [], ◌∷◌, ◌++◌, length, set, sym, refl, ap, ◌∙◌, ⊎_elim, append_assoc, append-nil}
use mathlib.Core.Option.{some}
use lib.ListN.{get_elem?}
use Rattle.crossbeam_queue.specs.Fifo.{Pushes, Pops, Forks, Merges, Learns}
use Rattle.crossbeam_queue.proofs.Lists.{at_set}
use Rattle.sub_queue.specs.declared.rule.Log.{Log}
use Rattle.sub_queue.specs.Line.{log, Fits, Relayed, Begins, Agree}
use Rattle.sub_queue.proofs.Lists.{begins_more, agrees, no_longer}
use Rattle.sub_queue.proofs.Views.{Each, each_set, each_one, each_more}

module _ {T : Type 0} where
  abbrev nothing : Log T
  nothing = log false false [] [] []

  -- a pass that is no end
  idle : (feed tap : ℕ) (sent taken : List T) (port : ℕ) → Fits feed tap sent taken port nothing
  idle feed tap sent taken port = ((λ p. absurd (true≢false (sym p))), λ p. absurd (true≢false (sym p)))

  pub begins : Relayed {T = T} [] (log true true [] [] [] ∷ [])
  begins = (
    0,
    0,
    [],
    [],
    refl,
    each_one (Fits 0 0 [] []) (log true true [] [] []) ((λ _. (refl, refl)), λ _. (refl, refl, ([], refl))),
  )

  pub sends : (n port : ℕ) (v : Log T) (x : T) → v.feeds ≡ true
      → Pushes Relayed n port v x (λ w. w ≡ log v.feeds v.taps (v.sent ++ x ∷ []) v.taken v.told)
  sends n port v x may items views _ h at = let mine = h.5 port v at in let sent = h.2 ++ x ∷ [] in
      let w : Log T = log v.feeds v.taps (v.sent ++ x ∷ []) v.taken v.told in (
        w,
        (
          h.0,
          h.1,
          sent,
          h.3,
          ap (λ l. l ++ x ∷ []) h.4 ∙ append_assoc h.3 items (x ∷ []),
          each_set (Fits h.0 h.1 sent h.3) views port w (
            (λ _. ((mine.0 may).0, ap (λ l. l ++ x ∷ []) (mine.0 may).1)),
            λ p. ((mine.1 p).0, (mine.1 p).1, begins_more v.told h.2 x (mine.1 p).2),
          )
              (λ j u other e. let theirs = h.5 j u e in (
                (λ p. absurd (other ((theirs.0 p).0 ∙ sym (mine.0 may).0))),
                λ p. ((theirs.1 p).0, (theirs.1 p).1, begins_more u.told h.2 x (theirs.1 p).2),
              )),
        ),
        refl,
      )

  pub gets : (port : ℕ) (v : Log T) → v.taps ≡ true
      → Pops Relayed port v (λ x w. (w ≡ log v.feeds v.taps v.sent (v.taken ++ x ∷ []) v.told) × Agree (v.taken ++ x ∷ []) v.told)
  gets port v may x items views h at = let mine = h.5 port v at in let got = h.3 ++ x ∷ [] in
      let w : Log T = log v.feeds v.taps v.sent (v.taken ++ x ∷ []) v.told in
      let all = h.4 ∙ sym (append_assoc h.3 (x ∷ []) items) in (
        w,
        (
          h.0,
          h.1,
          h.2,
          got,
          all,
          each_set (Fits h.0 h.1 h.2 got) views port w
              (mine.0, λ _. ((mine.1 may).0, ap (λ l. l ++ x ∷ []) (mine.1 may).1, (mine.1 may).2))
              (λ j u other e. let theirs = h.5 j u e in
              (theirs.0, λ p. absurd (other ((theirs.1 p).0 ∙ sym (mine.1 may).0)))),
        ),
        (
          refl,
          agrees (v.taken ++ x ∷ []) v.told items (mine.1 may).2.0
              (ap (λ l. (l ++ x ∷ []) ++ items) (mine.1 may).1 ∙ sym all ∙ (mine.1 may).2.1),
        ),
      )

  -- a pass that is both ends is parted, and the tap's knows what was sent
  pub forks : (port : ℕ) (v : Log T) → v.feeds ≡ true → v.taps ≡ true
      → Forks Relayed port v (log true false v.sent [] []) (log false true [] v.taken v.sent)
  forks port v a b items views h at = let mine = h.5 port v at in
      let l : Log T = log true false v.sent [] [] in let r : Log T = log false true [] v.taken v.sent in
      let vs : List (Log T) = set views port l in
      let Old : ℕ → Log T → Type 0 = λ j u. (u.feeds ≡ true → (j ≡ h.0) × (u.sent ≡ h.2)) × (u.taps ≢ true) in
      let old : Each Old vs = each_set Old views port l ((λ _. mine.0 a), λ p. true≢false (sym p))
      (λ j u other e. let theirs = h.5 j u e in (theirs.0, λ p. other ((theirs.1 p).0 ∙ sym (mine.1 b).0))) in (
        h.0,
        length vs,
        h.2,
        h.3,
        h.4,
        each_more (Fits h.0 (length vs) h.2 h.3) vs r
            (λ j u e. let x = old j u e in (x.0, λ p. absurd (x.1 p)))
            (λ j last. (
              (λ p. absurd (true≢false (sym p))),
              λ _. (
                last (λ e. (old j r e).1 refl),
                (mine.1 b).1,
                ([], sym (mine.0 a).1 ∙ sym (append-nil v.sent)),
              ),
            )),
      )

  pub merges : (port : ℕ) (v : Log T) (other : ℕ) (u : Log T) → v.feeds ≡ true → u.taps ≡ true
      → Merges Relayed port v other u (log true true v.sent u.taken u.told) nothing
  merges port v other u a b items views h at two at' = let mine = h.5 port v at in
      let both : Log T = log true true v.sent u.taken u.told in let vs : List (Log T) = set views port both in
      let was : get_elem? views other ≡ some u = ⊎_elim (λ x. absurd (two x.0)) (λ x. x.1)
      (at_set views port other both u at') in
      let theirs = (h.5 other u was).1 b in
      let Now : ℕ → Log T → Type 0 = λ j y. j ≢ other → Fits h.0 port h.2 h.3 j y in
      let now : Each Now vs = each_set Now views port both (λ _. ((λ _. mine.0 a), λ _. (refl, theirs.1, theirs.2)))
      (λ j y _ e apart. let x = h.5 j y e in (x.0, λ p. absurd (apart ((x.1 p).0 ∙ sym theirs.0)))) in (
        h.0,
        port,
        h.2,
        h.3,
        h.4,
        each_set (Fits h.0 port h.2 h.3) vs other nothing (idle h.0 port h.2 h.3 other) (λ j y apart e. now j y e apart),
      )

  pub spares : (port : ℕ) (v : Log T) → Forks Relayed port v v nothing
  spares port v items views h at = (
    h.0,
    h.1,
    h.2,
    h.3,
    h.4,
    each_more (Fits h.0 h.1 h.2 h.3) (set views port v) nothing
        (each_set (Fits h.0 h.1 h.2 h.3) views port v (h.5 port v at) (λ j u other e. h.5 j u e))
        (λ j last. idle h.0 h.1 h.2 h.3 j),
  )

  -- what was sent is what was taken and what the queue holds
  pub wholes : (port : ℕ) (v : Log T) → v.feeds ≡ true → v.taps ≡ true
      → Learns Relayed port v (λ items. (v.sent ≡ v.taken ++ items) × Begins v.told v.sent)
  wholes port v a b items views h at = let f = (h.5 port v at).0 a in let t = (h.5 port v at).1 b in
      (f.1 ∙ h.4 ∙ ap (λ l. l ++ items) (sym t.1), (t.2.0, f.1 ∙ t.2.1))

  -- what is known to be sent was taken, or the queue holds it
  pub ahead : (port : ℕ) (v : Log T) → v.taps ≡ true
      → Learns Relayed port v (λ items. length v.told ≤ length v.taken + length items)
  ahead port v a items views h at = let t = (h.5 port v at).1 a in
      no_longer v.told v.taken items h.2 t.2 (h.4 ∙ ap (λ l. l ++ items) (sym t.1))
