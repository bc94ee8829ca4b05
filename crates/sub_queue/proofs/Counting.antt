-- Each step on the word that counts what was taken keeps its rule.
use Rattle.std.proofs.Common.{◌≡◌, ◌≢◌, ℕ, ◌≤◌, true, true≢false, [], ◌∷◌, ◌++◌, length, set, sym, refl, ap, ◌∙◌, ⊎_elim, arith}
use Rattle.std.specs.Prelude.{List, slice_index, slice_set, false}
use mathlib.Core.Option.{some}
use lib.ListN.{get_elem?}
use Rattle.atomic_table.specs.Table.{State, Me, keeps, Allows, Splits, Joins, opening}
use Rattle.crossbeam_queue.proofs.Lists.{at_set}
use Rattle.sub_queue.specs.declared.taking.Mark.{Mark}
use Rattle.sub_queue.specs.Taking.{mark, Heeds, Counts, Hears, Tells}
use Rattle.sub_queue.proofs.Views.{Each, each_set, each_one, each_more}

-- a seat that only hears
hearing : (teller n id heard : ℕ) → heard ≤ n → Heeds teller n id (mark false 0 heard)
hearing teller n id heard le = ((λ p. absurd (true≢false (sym p))), le)

pub opens : Counts (opening (0 ∷ []) [] (mark true 0 0))
opens = (0, 0, refl, each_one (Heeds 0 0) (mark true 0 0) ((λ _. (refl, refl)), omega arith))

-- a load by any seat
pub hears : (slots id : ℕ) (me : Me (Unit {0}) Mark) → Allows Counts slots id me 0 (λ n. n) (Hears me)
hears slots id me s h homes at fits = let v = me.0 in let n = h.0 in let mine = h.3 id v at in
    let found : slice_index s.words 0 ≡ n = ap (λ ws. slice_index ws 0) h.2 in
    let w : Mark = mark v.tells v.told (slice_index s.words 0) in (
      w,
      keeps,
      tt,
      (
        n,
        h.1,
        ap (λ ws. slice_set ws 0 (slice_index s.words 0)) h.2 ∙ ap (λ (k : ℕ). k ∷ []) found,
        each_set (Heeds h.1 n) s.views id w (mine.0, omega (arith, found)) (λ j u other e. h.3 j u e),
      ),
      (refl, omega (arith, mine.1, found), λ tells. (mine.0 tells).1 ∙ sym found),
    )

-- a store of a greater number by the seat that tells
pub tells : (slots id : ℕ) (me : Me (Unit {0}) Mark) (new : ℕ) → me.0.tells ≡ true → me.0.told ≤ new
    → Allows Counts slots id me 0 (λ _. new) (λ _. Tells me new)
tells slots id me new may le s h homes at fits = let v = me.0 in let n = h.0 in let mine = h.3 id v at in
    let was = mine.0 may in let more : n ≤ new = omega (arith, was.1, le) in let w : Mark = mark true new v.heard in (
      w,
      keeps,
      tt,
      (
        new,
        h.1,
        ap (λ ws. slice_set ws 0 new) h.2,
        each_set (Heeds h.1 new) s.views id w ((λ _. (was.0, refl)), omega (arith, mine.1, more))
            (λ j u other e. let theirs = h.3 j u e in
            ((λ p. absurd (other ((theirs.0 p).0 ∙ sym was.0))), omega (arith, theirs.1, more))),
      ),
      refl,
    )

-- the seat that tells parts from one that hears
pub parts : (id : ℕ) (v : Mark) → v.tells ≡ true → Splits Counts id v (mark false 0 v.told) (mark true v.told 0)
parts id v may s h at = let n = h.0 in let was = (h.3 id v at).0 may in
    let l : Mark = mark false 0 v.told in let r : Mark = mark true v.told 0 in let vs = set s.views id l in
    let Quiet : ℕ → Mark → Type 0 = λ j u. (u.tells ≢ true) × (u.heard ≤ n) in
    let quiet : Each Quiet vs = each_set Quiet s.views id l ((λ p. true≢false (sym p)), omega (arith, was.1))
    (λ j u other e. let theirs = h.3 j u e in ((λ p. other ((theirs.0 p).0 ∙ sym was.0)), theirs.1)) in (
      n,
      length vs,
      h.2,
      each_more (Heeds (length vs) n) vs r (λ j u e. let q = quiet j u e in ((λ p. absurd (q.0 p)), q.1))
          (λ j last. ((λ _. (last (λ e. (quiet j r e).0 refl), was.1)), omega arith)),
    )

-- a seat that tells nothing parts from any
pub spares : (id : ℕ) (v : Mark) → Splits Counts id v v (mark false 0 0)
spares id v s h at = (
  h.0,
  h.1,
  h.2,
  each_more (Heeds h.1 h.0) (set s.views id v) (mark false 0 0)
      (each_set (Heeds h.1 h.0) s.views id v (h.3 id v at) (λ j u other e. h.3 j u e))
      (λ j last. hearing h.1 h.0 j 0 (omega arith)),
)

-- a seat takes in the one that tells
pub joins : (id : ℕ) (v : Mark) (other : ℕ) (w : Mark) → w.tells ≡ true
    → Joins Counts id v other w (mark true w.told v.heard) (mark false 0 0)
joins id v other w may s h at apart at' = let both : Mark = mark true w.told v.heard in let n = h.0 in
    let vs = set s.views id both in
    let was : get_elem? s.views other ≡ some w = ⊎_elim (λ x. absurd (apart x.0)) (λ x. x.1)
    (at_set s.views id other both w at') in
    let told = (h.3 other w was).0 may in
    let Now : ℕ → Mark → Type 0 = λ j y. j ≢ other → Heeds id n j y in
    let now : Each Now vs = each_set Now s.views id both (λ _. ((λ _. (refl, told.1)), (h.3 id v at).1))
    (λ j y _ e away. let theirs = h.3 j y e in ((λ p. absurd (away ((theirs.0 p).0 ∙ sym told.0))), theirs.1)) in (
      n,
      id,
      h.2,
      each_set (Heeds id n) vs other (mark false 0 0) (hearing id n other 0 (omega arith)) (λ j y away e. now j y e away),
    )
