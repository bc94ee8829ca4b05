-- The steps on the word that move no parts but those of their own seat keep the accounts.
use Rattle.std.proofs.Common.{◌≡◌, ℕ, ◌+◌, ◌-◌, ◌%◌, ◌≤◌, [], ◌∷◌, ◌++◌, length, set, sym, refl, ap, ◌∙◌, subst, arith, eqb, eq-eqb, length-set}
use Rattle.std.specs.Prelude.{slice_index, slice_set}
use mathlib.Core.Option.{some}
use mathlib.Core.Logic.{dite, ⊎_elim}
use native.Mathlib.Decide.{ℕ_discrete}
use lib.ListN.{get_elem?}
use prog.Atomic.{either}
use Rattle.atomic_table.specs.Table.{State, Me, keeps, Allows, Splits, Joins}
use Rattle.atomic_table.proofs.Lists.{at_set, set_else}
use Rattle.counted_payload.specs.declared.Entry.{Entry}
use Rattle.counted_payload.specs.Accounts.{spent, sum_of, live_of, held_of, lasts_of, excess, parts_in, surplus, Accounted, returned, lowered}
use Rattle.share_count.specs.Weights.{part}
use Rattle.share_count.specs.Cutting.{stays, goes, together, noted, Looks, Learns, Ends}
use Rattle.share_count.proofs.Sums.{changed, at_least, with_new, at_push, length_push, here, elsewhere, at_most, books_from, found, less, told, all_live}

-- one entry changes in what it looked at alone
pub kept : (s : State (Unit {0}) Entry) (id : ℕ) (v w : Entry) → Accounted s → get_elem? s.views id ≡ some v → w.live ≡ v.live → w.held ≡ v.held → w.lasts ≡ v.lasts → w.parts ≡ v.parts → w.pool ≡ v.pool → w.out ≡ v.out
    → Accounted record { words = slice_set s.words 0 (slice_index s.words 0); homes = s.homes; views = slice_set s.views id w }
kept s id v w h at live held lasts parts pool out =
    let vs = s.views in let ws = set vs id w in
    let a = changed live_of vs id v w at in let b = changed held_of vs id v w at in let c = changed lasts_of vs id v w at in let d = changed excess vs id v w at in let m = changed surplus vs id v w at in let m0 = h.2.1 in
    let alive : sum_of live_of ws ≡ sum_of live_of vs = omega (arith, a, live) in
    let pools : (b : ℕ) → sum_of (parts_in b) ws ≡ sum_of (parts_in b) vs = λ b. let x = changed (parts_in b) vs id v w at in let y : parts_in b w ≡ parts_in b v = λ i. either (eqb (pool i) b) (parts i) 0 in omega (arith, x, y) in (
      ap (λ x. slice_set x 0 (slice_index s.words 0)) h.0 ∙ ap (λ (k : ℕ). k ∷ []) (found s h ∙ sym alive),
      books_from vs ws alive (omega (arith, b, held)) (omega (arith, c, lasts)) (omega (arith, d, lasts, held)) h.1,
      (
        (λ j y e. let sums = pools j in ⊎_elim
            (λ same. let mine = h.2.0 j v (subst (λ i. get_elem? vs i ≡ some v) (sym same.0) at) in let is : w.out ≡ y.out = ap (λ (x : Entry). x.out) same.1 in omega (arith, mine, is, sums, out))
            (λ other. let theirs = h.2.0 j y other.1 in omega (arith, theirs, sums))
            (at_set vs id j w y e)),
        omega (arith, m, m0, parts, live),
        (λ j far. let l = length-set vs id w in let none = h.2.2 j (omega (arith, far, l)) in let sums = pools j in omega (arith, none, sums)),
      ),
      (λ j y e bare. ⊎_elim
          (λ same. let l : w.live ≡ y.live = ap (λ (x : Entry). x.live) same.1 in let p : w.parts ≡ y.parts = ap (λ (x : Entry). x.parts) same.1 in let all = h.3 id v at (omega (arith, bare, l, p, live, parts)) in omega (arith, all, l, live, alive))
          (λ other. let all = h.3 j y other.1 bare in omega (arith, all, alive))
          (at_set vs id j w y e)),
    )

pub looks : (slots id : ℕ) (me : Me (Unit {0}) Entry) → Allows Accounted slots id me 0 (λ n. n) (Looks me)
looks slots id me s h homes at fits =
    let n = found s h in let a = at_least live_of s.views id me.0 at in let b = at_least held_of s.views id me.0 at in let total = h.1.0 in (
      noted me.0 (slice_index s.words 0),
      keeps,
      tt,
      kept s id me.0 (noted me.0 (slice_index s.words 0)) h at refl refl refl refl refl refl,
      (refl, omega (arith, n, a), (λ z. omega (arith, n, a, b, total, z)), (λ z. all_live s id me.0 h at z)),
    )

pub learns : (slots id : ℕ) (me : Me (Unit {0}) Entry) → Allows Accounted slots id me 0 (λ n. n) (Learns me)
learns slots id me s h homes at fits =
    let o = told s.views id me.0 h.1 at in
    (me.0, keeps, tt, kept s id me.0 me.0 h at refl refl refl refl refl refl, (refl, o.0, o.1, o.2, o.3))

pub cuts : (id : ℕ) (v : Entry) → 2 ≤ v.live → v.parts ≡ v.live → Splits Accounted id v (stays v) (goes v)
cuts id v two lent s h at =
    let vs = s.views in let N = length vs in let v' = stays v in let ws = set vs id v' in let u = goes v in let xs = ws ++ u ∷ [] in let few : part v.live ≤ v.live = omega arith in
    let a = changed live_of vs id v v' at in let a2 = with_new live_of ws u in
    let b = changed held_of vs id v v' at in let b2 = with_new held_of ws u in
    let c = changed lasts_of vs id v v' at in let c2 = with_new lasts_of ws u in
    let d = changed excess vs id v v' at in let d2 = with_new excess ws u in
    let m = changed surplus vs id v v' at in let m2 = with_new surplus ws u in let m0 = h.2.1 in
    let live : sum_of live_of xs ≡ sum_of live_of vs = omega (arith, a, a2, few) in
    let halves : (b : ℕ) → parts_in b v' + parts_in b u ≡ parts_in b v = λ b. dite (ℕ_discrete v.pool b)
    (λ e. let x = here b v e in let y = here b v' e in let z = here b u e in omega (arith, x, y, z, few, lent))
    (λ n. let x = elsewhere b v n in let y = elsewhere b v' n in let z = elsewhere b u n in omega (arith, x, y, z)) in
    let pools : (b : ℕ) → sum_of (parts_in b) xs ≡ sum_of (parts_in b) vs = λ b. let x = changed (parts_in b) vs id v v' at in let y = with_new (parts_in b) ws u in let z = halves b in omega (arith, x, y, z) in
    let long : length ws ≡ N = length-set vs id v' in (
      h.0 ∙ ap (λ (k : ℕ). k ∷ []) (sym live),
      books_from vs xs live (omega (arith, b, b2)) (omega (arith, c, c2)) (omega (arith, d, d2)) h.1,
      (
        (λ j y e. let sums = pools j in ⊎_elim
            (λ old. ⊎_elim
            (λ same. let mine = h.2.0 j v (subst (λ i. get_elem? vs i ≡ some v) (sym same.0) at) in let is : v.out ≡ y.out = ap (λ (x : Entry). x.out) same.1 in omega (arith, mine, is, sums))
            (λ other. let theirs = h.2.0 j y other.1 in omega (arith, theirs, sums))
            (at_set vs id j v' y old))
            (λ new. let is : 0 ≡ y.out = ap (λ (x : Entry). x.out) new.1 in let none = h.2.2 j (let number = new.0 in omega (arith, number, long)) in omega (arith, is, sums, none))
            (at_push ws u y j e)),
        omega (arith, m, m2, m0, few, lent),
        (λ j far. let longer = length_push ws u in let none = h.2.2 j (omega (arith, far, longer, long)) in let sums = pools j in omega (arith, none, sums)),
      ),
      (λ j y e bare. ⊎_elim
          (λ old. ⊎_elim
          (λ same. let l : v'.live ≡ y.live = ap (λ (x : Entry). x.live) same.1 in let p : v'.parts ≡ y.parts = ap (λ (x : Entry). x.parts) same.1 in absurd (omega (arith, bare, l, p, lent)))
          (λ other. let all = h.3 j y other.1 bare in omega (arith, all, live))
          (at_set vs id j v' y old))
          (λ new. let l : u.live ≡ y.live = ap (λ (x : Entry). x.live) new.1 in let p : u.parts ≡ y.parts = ap (λ (x : Entry). x.parts) new.1 in absurd (omega (arith, bare, l, p)))
          (at_push ws u y j e)),
    )

-- w has nothing live and no parts: the entry of a receipt
pub joins : (id : ℕ) (v : Entry) (other : ℕ) (w : Entry) → w.live ≡ 0 → w.parts ≡ 0 → w.out ≡ 0 → Joins Accounted id v other w (together v w) spent
joins id v other w no_live no_parts no_out s h at apart at2 =
    let vs = s.views in let u = together v w in let ws = set vs id u in let xs = set ws other spent in
    let at3 : get_elem? vs other ≡ some w = sym (set_else vs id other u apart) ∙ at2 in
    let a = changed live_of vs id v u at in let a2 = changed live_of ws other w spent at2 in
    let b = changed held_of vs id v u at in let b2 = changed held_of ws other w spent at2 in
    let c = changed lasts_of vs id v u at in let c2 = changed lasts_of ws other w spent at2 in
    let d = changed excess vs id v u at in let d2 = changed excess ws other w spent at2 in let e = at_least excess vs other w at3 in let e1 = at_least excess vs id v at in let h3 = h.1.3 in
    let m = changed surplus vs id v u at in let m2 = changed surplus ws other w spent at2 in let m0 = h.2.1 in let m1 = at_least surplus vs id v at in
    let live : sum_of live_of xs ≡ sum_of live_of vs = omega (arith, a, a2) in
    let pools : (b : ℕ) → sum_of (parts_in b) xs ≡ sum_of (parts_in b) vs = λ b. let x = changed (parts_in b) vs id v u at in let y = changed (parts_in b) ws other w spent at2 in let z = at_most b w in let t = at_most b spent in let same : parts_in b u ≡ parts_in b v = refl in omega (arith, x, y, z, t, same, no_parts) in (
      h.0 ∙ ap (λ (k : ℕ). k ∷ []) (sym live),
      books_from vs xs live (omega (arith, b, b2)) (omega (arith, c, c2)) (omega (arith, d, d2, e, e1, h3)) h.1,
      (
        (λ j y g. let sums = pools j in ⊎_elim
            (λ gone. let is : 0 ≡ y.out = ap (λ (x : Entry). x.out) gone.1 in let theirs = h.2.0 j w (subst (λ i. get_elem? vs i ≡ some w) (sym gone.0) at3) in omega (arith, is, theirs, no_out, sums))
            (λ stayed. ⊎_elim
            (λ same. let mine = h.2.0 j v (subst (λ i. get_elem? vs i ≡ some v) (sym same.0) at) in let is : v.out ≡ y.out = ap (λ (x : Entry). x.out) same.1 in omega (arith, mine, is, sums))
            (λ more. let theirs = h.2.0 j y more.1 in omega (arith, theirs, sums))
            (at_set vs id j u y stayed.1))
            (at_set ws other j spent y g)),
        omega (arith, m, m2, m0, m1),
        (λ j far. let l1 = length-set ws other spent in let l2 = length-set vs id u in let none = h.2.2 j (omega (arith, far, l1, l2)) in let sums = pools j in omega (arith, none, sums)),
      ),
      (λ j y g bare. ⊎_elim
          (λ gone. let l : 0 ≡ y.live = ap (λ (x : Entry). x.live) gone.1 in absurd (omega (arith, bare, l)))
          (λ stayed. ⊎_elim
          (λ same. let l : u.live ≡ y.live = ap (λ (x : Entry). x.live) same.1 in let p : u.parts ≡ y.parts = ap (λ (x : Entry). x.parts) same.1 in let all = h.3 id v at (omega (arith, bare, l, p, no_live)) in omega (arith, all, l, live, no_live))
          (λ more. let all = h.3 j y more.1 bare in omega (arith, all, live))
          (at_set vs id j u y stayed.1))
          (at_set ws other j spent y g)),
    )

-- a seat that is alone gives its weight back, and is the last
pub ends : (slots id : ℕ) (me : Me (Unit {0}) Entry) (k : ℕ) → me.0.live ≡ k → 1 ≤ k → me.0.parts ≡ 0 → me.0.out ≡ 0 → Allows Accounted slots id me 0 (λ n. (n + (18446744073709551616 - k)) % 18446744073709551616) (Ends me)
ends slots id me k is some_live none_lent none_out s h homes at fits =
    let vs = s.views in let n = slice_index s.words 0 in let v = me.0 in let word = found s h in let total = h.1.0 in
    let all = all_live s id v h at (omega (arith, none_lent, is, some_live)) in
    let w = returned v v.live n in let ws = set vs id w in
    let one : w.lasts ≡ 1 = ap (λ y. either y 1 0) (eq-eqb n v.live all) in
    let after = less n k (omega (arith, all, is)) (omega (arith, word, total)) in
    let a = changed live_of vs id v w at in let b = changed held_of vs id v w at in let c = changed lasts_of vs id v w at in let d = changed excess vs id v w at in let m = changed surplus vs id v w at in let m0 = h.2.1 in let m1 = at_least surplus vs id v at in
    let e = at_least excess vs id v at in let mine_live = at_least live_of vs id v at in let mine_lasts = at_least lasts_of vs id v at in
    let none = h.1.2 (omega (arith, mine_live, is, some_live)) in let h3 = h.1.3 in
    let over : sum_of live_of ws ≡ 0 = omega (arith, a, all, word) in
    let pools : (b : ℕ) → sum_of (parts_in b) ws ≡ sum_of (parts_in b) vs = λ b. let x = changed (parts_in b) vs id v w at in let y = at_most b v in let z = at_most b w in omega (arith, x, y, z, none_lent) in (
      w,
      keeps,
      tt,
      (
        ap (λ x. slice_set x 0 (lowered k n)) h.0 ∙ ap (λ (j : ℕ). j ∷ []) (after ∙ omega (arith, over, all, is)),
        (omega (arith, a, b, total), (λ z. omega (arith, c, one, none, mine_lasts)), (λ z. absurd (omega (arith, z, over))), omega (arith, d, h3, e, one, is, some_live)),
        (
          (λ j y g. let sums = pools j in ⊎_elim
              (λ same. let mine = h.2.0 j v (subst (λ i. get_elem? vs i ≡ some v) (sym same.0) at) in let gone : 0 ≡ y.out = ap (λ (x : Entry). x.out) same.1 in omega (arith, mine, gone, none_out, sums))
              (λ other. let theirs = h.2.0 j y other.1 in omega (arith, theirs, sums))
              (at_set vs id j w y g)),
          omega (arith, m, m0, m1),
          (λ j far. let l = length-set vs id w in let nothing = h.2.2 j (omega (arith, far, l)) in let sums = pools j in omega (arith, nothing, sums)),
        ),
        (λ j y g bare. let some_of = at_least live_of ws j y g in absurd (omega (arith, bare, some_of, over))),
      ),
      (refl, all),
    )
