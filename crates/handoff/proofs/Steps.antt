-- Each step keeps the rule of a handoff.
use Rattle.std.proofs.Common.{◌≡◌, ◌≢◌, ◌⊎◌, ℕ, zero, suc, List, [], ◌∷◌, ◌++◌, sym, refl, ap, ◌∙◌, subst, inl, inr, arith}
use Rattle.std.specs.Prelude.{Option, Some, None, slice_index, slice_set}
use mathlib.Core.Option.{some, none, some-injective, some-ne-none}
use mathlib.Core.Option as home
use lib.ListN.{get_elem?}
use Rattle.atomic_table.specs.Table.{State, Me, Act, keeps, takes, gives, Valid, stepped, Allows, Splits, carried_after}
use Rattle.atomic_table.proofs.Lists.{set_again}
use Rattle.handoff.specs.declared.rule.View.{View}
use Rattle.handoff.specs.declared.rule.View.TheVariants.{Whole, Holding, Waiting, Resting, Working}
use Rattle.handoff.specs.Phases.{Phase, fresh, free, asked, worked, done, Fresh, Free, Asked, Done, Kept, Collects, Looks, Hands, Rests}

module _ (J : Type 0) where
  -- where an end sits among one or two
  alone : (vs : List (View J)) (a v : View J) (id : ℕ) → vs ≡ a ∷ [] → get_elem? vs id ≡ some v → (id ≡ 0) × (a ≡ v)
  alone vs a v zero is at = (refl, some-injective a v (subst (λ (l : List (View J)). get_elem? l 0 ≡ some v) is at))
  alone vs a v (suc id) is at = absurd (some-ne-none v (sym (subst (λ (l : List (View J)). get_elem? l (suc id) ≡ some v) is at)))

  one_of : (vs : List (View J)) (a b v : View J) (id : ℕ) → vs ≡ a ∷ b ∷ [] → get_elem? vs id ≡ some v → ((id ≡ 0) × (a ≡ v)) ⊎ ((id ≡ 1) × (b ≡ v))
  one_of vs a b v zero is at = inl (refl, some-injective a v (subst (λ (l : List (View J)). get_elem? l 0 ≡ some v) is at))
  one_of vs a b v (suc zero) is at = inr (refl, some-injective b v (subst (λ (l : List (View J)). get_elem? l 1 ≡ some v) is at))
  one_of vs a b v (suc (suc id)) is at = absurd (some-ne-none v (sym (subst (λ (l : List (View J)). get_elem? l (suc (suc id)) ≡ some v) is at)))

  neither : (a b v : View J) (id : ℕ) → ((id ≡ 0) × (a ≡ v)) ⊎ ((id ≡ 1) × (b ≡ v)) → a ≢ v → b ≢ v → ⊥
  neither a b v id (inl p) not_a not_b = not_a p.1
  neither a b v id (inr p) not_a not_b = not_b p.1

  first : (a b v : View J) (id : ℕ) → ((id ≡ 0) × (a ≡ v)) ⊎ ((id ≡ 1) × (b ≡ v)) → b ≢ v → (id ≡ 0) × (a ≡ v)
  first a b v id (inl p) not_b = p
  first a b v id (inr p) not_b = absurd (not_b p.1)

  second : (a b v : View J) (id : ℕ) → ((id ≡ 0) × (a ≡ v)) ⊎ ((id ≡ 1) × (b ≡ v)) → a ≢ v → (id ≡ 1) × (b ≡ v)
  second a b v id (inl p) not_a = absurd (not_a p.1)
  second a b v id (inr p) not_a = p

  -- an end of which this is the place has a new view
  put : (vs ws : List (View J)) (id i : ℕ) (w : View J) → vs ≡ ws → id ≡ i → slice_set vs id w ≡ slice_set ws i w
  put vs ws id i w e f = λ k. slice_set (e k) (f k) w

  waits_for : (x y : Option J) → Waiting x ≡ Waiting y → x ≡ y
  waits_for x y e = cc

  works_on : (x y : J) → Working x ≡ Working y → x ≡ y
  works_on x y e = cc

  asks_some : (x : J) (o : Option J) → Waiting (Some x) ≡ Waiting o → o ≢ None
  asks_some x o e none_is = cc

  module _ (takes_it : J → Type 0) (does : J → J → Type 0) where
    abbrev Ph : ℕ → List (home.Option (Option J)) → List (View J) → Type 0
    Ph = Phase takes_it does

    -- what an end's view says of the phase
    at_whole : (n id : ℕ) (hs : List (home.Option (Option J))) (vs : List (View J)) → Ph n hs vs → get_elem? vs id ≡ some Whole → Fresh takes_it does n hs vs × (id ≡ 0)
    at_whole n id hs vs (fresh h) at = (h, (alone vs _ _ id h.2 at).0)
    at_whole n id hs vs (free h) at = absurd (neither _ _ _ id (one_of vs _ _ _ id h.2 at) (λ e. cc) (λ e. cc))
    at_whole n id hs vs (asked h) at = absurd (neither _ _ _ id (one_of vs _ _ _ id h.4 at) (λ e. cc) (λ e. cc))
    at_whole n id hs vs (worked h) at = absurd (neither _ _ _ id (one_of vs _ _ _ id h.3 at) (λ e. cc) (λ e. cc))
    at_whole n id hs vs (done a h) at = absurd (neither _ _ _ id (one_of vs _ _ _ id h.4 at) (λ e. cc) (λ e. cc))

    at_holding : (n id : ℕ) (hs : List (home.Option (Option J))) (vs : List (View J)) → Ph n hs vs → get_elem? vs id ≡ some Holding → Free takes_it does n hs vs × (id ≡ 0)
    at_holding n id hs vs (fresh h) at = let e = (alone vs _ _ id h.2 at).1 in absurd cc
    at_holding n id hs vs (free h) at = (h, (first _ _ _ id (one_of vs _ _ _ id h.2 at) (λ e. cc)).0)
    at_holding n id hs vs (asked h) at = absurd (neither _ _ _ id (one_of vs _ _ _ id h.4 at) (λ e. cc) (λ e. cc))
    at_holding n id hs vs (worked h) at = absurd (neither _ _ _ id (one_of vs _ _ _ id h.3 at) (λ e. cc) (λ e. cc))
    at_holding n id hs vs (done a h) at = absurd (neither _ _ _ id (one_of vs _ _ _ id h.4 at) (λ e. cc) (λ e. cc))

    at_waiting : (n id : ℕ) (o : Option J) (hs : List (home.Option (Option J))) (vs : List (View J)) → Ph n hs vs → get_elem? vs id ≡ some (Waiting o)
        → ((n ≡ 1) × (o ≢ None)) ⊎ (Done takes_it does o n hs vs × (id ≡ 0))
    at_waiting n id o hs vs (fresh h) at = let e = (alone vs _ _ id h.2 at).1 in absurd cc
    at_waiting n id o hs vs (free h) at = absurd (neither _ _ _ id (one_of vs _ _ _ id h.2 at) (λ e. cc) (λ e. cc))
    at_waiting n id o hs vs (asked h) at = inl (h.1, asks_some h.0 o (first _ _ _ id (one_of vs _ _ _ id h.4 at) (λ e. cc)).1)
    at_waiting n id o hs vs (worked h) at = inl (h.1, asks_some h.0 o (first _ _ _ id (one_of vs _ _ _ id h.3 at) (λ e. cc)).1)
    at_waiting n id o hs vs (done a h) at =
        let p = first _ _ _ id (one_of vs _ _ _ id h.4 at) (λ e. cc) in inr (subst (λ (b : Option J). Done takes_it does b n hs vs) (waits_for a o p.1) h, p.0)

    at_resting : (n id : ℕ) (hs : List (home.Option (Option J))) (vs : List (View J)) → Ph n hs vs → get_elem? vs id ≡ some Resting → (n ≢ 1) ⊎ (Asked takes_it does n hs vs × (id ≡ 1))
    at_resting n id hs vs (fresh h) at = let e = (alone vs _ _ id h.2 at).1 in absurd cc
    at_resting n id hs vs (free h) at = inl h.0
    at_resting n id hs vs (asked h) at = inr (h, (second _ _ _ id (one_of vs _ _ _ id h.4 at) (λ e. cc)).0)
    at_resting n id hs vs (worked h) at = absurd (neither _ _ _ id (one_of vs _ _ _ id h.3 at) (λ e. cc) (λ e. cc))
    at_resting n id hs vs (done a h) at = inl (λ one. let two = h.1 in omega arith)

    at_working : (n id : ℕ) (x : J) (hs : List (home.Option (Option J))) (vs : List (View J)) → Ph n hs vs → get_elem? vs id ≡ some (Working x)
        → (hs ≡ none ∷ []) × (vs ≡ Waiting (Some x) ∷ Working x ∷ []) × (id ≡ 1)
    at_working n id x hs vs (fresh h) at = let e = (alone vs _ _ id h.2 at).1 in absurd cc
    at_working n id x hs vs (free h) at = absurd (neither _ _ _ id (one_of vs _ _ _ id h.2 at) (λ e. cc) (λ e. cc))
    at_working n id x hs vs (asked h) at = absurd (neither _ _ _ id (one_of vs _ _ _ id h.4 at) (λ e. cc) (λ e. cc))
    at_working n id x hs vs (worked h) at =
        let p = second _ _ _ id (one_of vs _ _ _ id h.3 at) (λ e. cc) in (h.2, h.3 ∙ ap (λ (y : J). Waiting (Some y) ∷ Working y ∷ []) (works_on h.0 x p.1), p.0)
    at_working n id x hs vs (done a h) at = absurd (neither _ _ _ id (one_of vs _ _ _ id h.4 at) (λ e. cc) (λ e. cc))

    -- the steps, each by what the view says
    abbrev Next : State (Option J) (View J) → ℕ → Me (Option J) (View J) → (ℕ → ℕ) → (ℕ → Me (Option J) (View J) → Type 0) → Type 0
    Next s id me f then =
        (w : View J) × (a : Act (Option J)) × Valid s.homes me.1 a × Kept takes_it does (stepped s 0 (f (slice_index s.words 0)) id me.1 w a)
        × then (slice_index s.words 0) (w, carried_after me.1 a)

    found : (s : State (Option J) (View J)) (n : ℕ) → s.words ≡ n ∷ [] → slice_index s.words 0 ≡ n
    found s n e = ap (λ (ws : List ℕ). slice_index ws 0) e

    unchanged : (s : State (Option J) (View J)) (id n : ℕ) (me : Me (Option J) (View J)) (then : ℕ → Me (Option J) (View J) → Type 0) → s.words ≡ n ∷ [] → Ph n s.homes s.views → get_elem? s.views id ≡ some me.0
        → then (slice_index s.words 0) me → Next s id me (λ x. x) then
    unchanged s id n me then words ph at told =
        (me.0, keeps, tt, (n, ap (λ (ws : List ℕ). slice_set ws 0 (slice_index ws 0)) words, subst (λ (vs : List (View J)). Ph n s.homes vs) (sym (set_again s.views id me.0 at)) ph), told)

    collects_in : (id : ℕ) (o : Option J) (s : State (Option J) (View J)) (n : ℕ) → s.words ≡ n ∷ [] → Ph n s.homes s.views → get_elem? s.views id ≡ some (Waiting o)
        → ((n ≡ 1) × (o ≢ None)) ⊎ (Done takes_it does o n s.homes s.views × (id ≡ 0)) → Next s id (Waiting o, []) (λ x. x) (Collects does (Waiting o, []))
    collects_in id o s n words ph at (inl out) = let is = found s n words in
        unchanged s id n (Waiting o, []) (Collects does (Waiting o, [])) words ph at ((λ two. let one = out.0 in absurd (omega (arith, is))), λ _. (refl, out.1))
    collects_in id o s n words ph at (inr back) = let is = found s n words in let d = back.0 in (
      Holding,
      takes 0 d.0,
      ap (λ (hs : List (home.Option (Option J))). get_elem? hs 0) d.3,
      (
        n,
        ap (λ (ws : List ℕ). slice_set ws 0 (slice_index ws 0)) words,
        free ((λ one. let two = d.1 in omega arith), ap (λ (hs : List (home.Option (Option J))). slice_set hs 0 none) d.3, put s.views _ id 0 Holding d.4 back.1),
      ),
      ((λ _. (d.0, refl, d.2)), λ ne. absurd (ne (is ∙ d.1))),
    )

    pub collects : (slots id : ℕ) (o : Option J) (me : Me (Option J) (View J)) → me ≡ (Waiting o, []) → Allows (Kept takes_it does) slots id me 0 (λ n. n) (Collects does me)
    collects slots id o me is =
        subst
        (λ (m : Me (Option J) (View J)). Allows (Kept takes_it does) slots id m 0 (λ n. n) (Collects does m))
        (sym is)
        (λ s h long at fits. collects_in id o s h.0 h.1 h.2 at (at_waiting h.0 id o s.homes s.views h.2 at))

    looks_in : (id : ℕ) (s : State (Option J) (View J)) (n : ℕ) → s.words ≡ n ∷ [] → Ph n s.homes s.views → get_elem? s.views id ≡ some Resting
        → (n ≢ 1) ⊎ (Asked takes_it does n s.homes s.views × (id ≡ 1)) → Next s id (Resting, []) (λ x. x) (Looks takes_it (Resting, []))
    looks_in id s n words ph at (inl none_out) = let is = found s n words in
        unchanged s id n (Resting, []) (Looks takes_it (Resting, [])) words ph at ((λ one. absurd (none_out (sym is ∙ one))), λ _. refl)
    looks_in id s n words ph at (inr out) = let is = found s n words in let h = out.0 in (
      Working h.0,
      takes 0 (Some h.0),
      ap (λ (hs : List (home.Option (Option J))). get_elem? hs 0) h.3,
      (
        n,
        ap (λ (ws : List ℕ). slice_set ws 0 (slice_index ws 0)) words,
        worked (h.0, h.1, ap (λ (hs : List (home.Option (Option J))). slice_set hs 0 none) h.3, put s.views _ id 1 (Working h.0) h.4 out.1),
      ),
      ((λ _. (h.0, refl, h.2)), λ ne. absurd (ne (is ∙ h.1))),
    )

    pub looks : (slots id : ℕ) (me : Me (Option J) (View J)) → me ≡ (Resting, []) → Allows (Kept takes_it does) slots id me 0 (λ n. n) (Looks takes_it me)
    looks slots id me is =
        subst
        (λ (m : Me (Option J) (View J)). Allows (Kept takes_it does) slots id m 0 (λ n. n) (Looks takes_it m))
        (sym is)
        (λ s h long at fits. looks_in id s h.0 h.1 h.2 at (at_resting h.0 id s.homes s.views h.2 at))

    hands_in : (id : ℕ) (x : J) (s : State (Option J) (View J)) (n : ℕ) → takes_it x → s.words ≡ n ∷ [] → Free takes_it does n s.homes s.views × (id ≡ 0)
        → Next s id (Holding, (0, Some x) ∷ []) (λ _. 1) (λ _. Hands (Holding, (0, Some x) ∷ []))
    hands_in id x s n may words h = (
      Waiting (Some x),
      gives,
      tt,
      (
        1,
        ap (λ (ws : List ℕ). slice_set ws 0 1) words,
        asked (x, refl, may, ap (λ (hs : List (home.Option (Option J))). slice_set hs 0 (some (Some x))) h.0.1, put s.views _ id 0 (Waiting (Some x)) h.0.2 h.1),
      ),
      refl,
    )

    pub hands : (slots id : ℕ) (x : J) (me : Me (Option J) (View J)) → me ≡ (Holding, (0, Some x) ∷ []) → takes_it x → Allows (Kept takes_it does) slots id me 0 (λ _. 1) (λ _. Hands me)
    hands slots id x me is may =
        subst
        (λ (m : Me (Option J) (View J)). Allows (Kept takes_it does) slots id m 0 (λ _. 1) (λ _. Hands m))
        (sym is)
        (λ s h long at fits. hands_in id x s h.0 may h.1 (at_holding h.0 id s.homes s.views h.2 at))

    answers_in : (id : ℕ) (x y : J) (s : State (Option J) (View J)) (n : ℕ) → does x y → s.words ≡ n ∷ [] → (s.homes ≡ none ∷ []) × (s.views ≡ Waiting (Some x) ∷ Working x ∷ []) × (id ≡ 1)
        → Next s id (Working x, (0, Some y) ∷ []) (λ _. 2) (λ _. Rests)
    answers_in id x y s n did words h = (
      Resting,
      gives,
      tt,
      (
        2,
        ap (λ (ws : List ℕ). slice_set ws 0 2) words,
        done (Some x) (Some y, refl, (y, refl, did), ap (λ (hs : List (home.Option (Option J))). slice_set hs 0 (some (Some y))) h.0, put s.views _ id 1 Resting h.1 h.2),
      ),
      refl,
    )

    pub answers : (slots id : ℕ) (x y : J) (me : Me (Option J) (View J)) → me ≡ (Working x, (0, Some y) ∷ []) → does x y → Allows (Kept takes_it does) slots id me 0 (λ _. 2) (λ _. Rests)
    answers slots id x y me is did =
        subst
        (λ (m : Me (Option J) (View J)). Allows (Kept takes_it does) slots id m 0 (λ _. 2) (λ _. Rests))
        (sym is)
        (λ s h long at fits. answers_in id x y s h.0 did h.1 (at_working h.0 id x s.homes s.views h.2 at))

    closes_in : (id : ℕ) (me : Me (Option J) (View J)) (s : State (Option J) (View J)) (n : ℕ) → s.words ≡ n ∷ [] → Free takes_it does n s.homes s.views × (id ≡ 0) → get_elem? s.views id ≡ some me.0
        → Next s id me (λ _. 3) (λ _ w. w ≡ me)
    closes_in id me s n words h at =
        (me.0, keeps, tt, (3, ap (λ (ws : List ℕ). slice_set ws 0 3) words, free ((λ e. omega arith), h.0.1, set_again s.views id me.0 at ∙ h.0.2)), refl)

    pub closes : (slots id : ℕ) (me : Me (Option J) (View J)) → me.0 ≡ Holding → Allows (Kept takes_it does) slots id me 0 (λ _. 3) (λ _ w. w ≡ me)
    closes slots id me is s h long at fits = closes_in id me s h.0 h.1 (at_holding h.0 id s.homes s.views h.2 (at ∙ ap (λ (v : View J). some v) is)) at

    hires_in : (id : ℕ) (s : State (Option J) (View J)) (n : ℕ) → s.words ≡ n ∷ [] → Fresh takes_it does n s.homes s.views × (id ≡ 0)
        → Kept takes_it does record { words = s.words; homes = s.homes; views = slice_set s.views id (Waiting None) ++ Resting ∷ [] }
    hires_in id s n words h = (n, words, done None (None, h.0.0, tt, h.0.1, ap (λ (vs : List (View J)). vs ++ Resting ∷ []) (put s.views _ id 0 (Waiting None) h.0.2 h.1)))

    pub hires : (id : ℕ) (v : View J) → v ≡ Whole → Splits (Kept takes_it does) id v (Waiting None) Resting
    hires id v is s h at = hires_in id s h.0 h.1 (at_whole h.0 id s.homes s.views h.2 (at ∙ ap (λ (w : View J). some w) is))
