-- The steps on the word that lend a payload to a pool, leave parts with it, or take the payload home keep the accounts.
use Rattle.std.proofs.Common.{◌≡◌, ℕ, ◌+◌, ◌-◌, ◌^◌, ◌≤◌, ◌<◌, [], ◌∷◌, ◌++◌, length, set, sym, refl, ap, ◌∙◌, subst, arith, eq-eqb, ne_eqb, length-set}
use Rattle.std.specs.Prelude.{slice_index, slice_set}
use mathlib.Core.Option.{some}
use mathlib.Core.Logic.{dite, ⊎_elim}
use native.Mathlib.Decide.{ℕ_discrete}
use lib.ListN.{get_elem?}
use prog.Atomic.{either}
use Rattle.atomic_table.proofs.Lists.{at_set, set_else}
use Rattle.counted_payload.specs.declared.Entry.{Entry}
use Rattle.counted_payload.specs.Accounts.{spent, sum_of, live_of, held_of, lasts_of, excess, parts_in, surplus, returned, fewer, lowered, Leaves, lent, pool_entry, Lends, claimed, emptied, ClaimTaken, ClaimKept}
use Rattle.share_count.proofs.Sums.{changed, at_least, two_at_least, with_new, at_less, at_push, length_push, here, elsewhere, at_most, parts_under, books_from, found, less}
use Rattle.share_count.proofs.Steps.{kept}

pub lends : (id : ℕ) (v : Entry) (k : ℕ) → v.parts ≡ 0 → v.live ≡ k → 1 ≤ k → Lends id v k
lends id v k idle fits some_live s h at =
    let vs = s.views in let N = length vs in let v' = lent v k N in let ws = set vs id v' in let u = pool_entry k in let xs = ws ++ u ∷ [] in
    let a = changed live_of vs id v v' at in let a2 = with_new live_of ws u in
    let b = changed held_of vs id v v' at in let b2 = with_new held_of ws u in
    let c = changed lasts_of vs id v v' at in let c2 = with_new lasts_of ws u in
    let d = changed excess vs id v v' at in let d2 = with_new excess ws u in
    let m = changed surplus vs id v v' at in let m2 = with_new surplus ws u in let m0 = h.2.1 in
    let live : sum_of live_of xs ≡ sum_of live_of vs = omega (arith, a, a2) in
    let pools : (b : ℕ) → sum_of (parts_in b) xs ≡ sum_of (parts_in b) vs + parts_in b v' = λ b. let x = changed (parts_in b) vs id v v' at in let y = with_new (parts_in b) ws u in let z = at_most b v in let t = at_most b u in omega (arith, x, y, z, t, idle) in
    let long : length ws ≡ N = length-set vs id v' in let whole = h.3 id v at (omega (arith, idle, fits, some_live)) in (
      h.0 ∙ ap (λ (k : ℕ). k ∷ []) (sym live),
      books_from vs xs live (omega (arith, b, b2)) (omega (arith, c, c2)) (omega (arith, d, d2)) h.1,
      (
        (λ j y e. let sums = pools j in ⊎_elim
            (λ old. let before = at_less ws j y old in let apart = elsewhere j v' (λ z. let w : N ≡ j = z in omega (arith, before, long, w)) in ⊎_elim
            (λ same. let mine = h.2.0 j v (subst (λ i. get_elem? vs i ≡ some v) (sym same.0) at) in let is : v.out ≡ y.out = ap (λ (x : Entry). x.out) same.1 in omega (arith, mine, is, sums, apart))
            (λ other. let theirs = h.2.0 j y other.1 in omega (arith, theirs, sums, apart))
            (at_set vs id j v' y old))
            (λ new. let is : k ≡ y.out = ap (λ (x : Entry). x.out) new.1 in let number : N ≡ j = sym long ∙ sym new.0 in let there = here j v' number in let none = h.2.2 j (omega (arith, number)) in omega (arith, is, sums, there, none))
            (at_push ws u y j e)),
        (let x = m in omega (arith, m, m2, m0, fits)),
        (λ j far. let longer = length_push ws u in let none = h.2.2 j (omega (arith, far, longer, long)) in let sums = pools j in let apart = elsewhere j v' (λ z. let w : N ≡ j = z in omega (arith, far, longer, long, w)) in omega (arith, none, sums, apart)),
      ),
      (λ j y e bare. ⊎_elim
          (λ old. ⊎_elim
          (λ same. let l : v'.live ≡ y.live = ap (λ (x : Entry). x.live) same.1 in let p : v'.parts ≡ y.parts = ap (λ (x : Entry). x.parts) same.1 in absurd (omega (arith, bare, l, p, fits)))
          (λ other. let both = two_at_least live_of vs id j v y at other.1 other.0 in absurd (omega (arith, bare, both, whole)))
          (at_set vs id j v' y old))
          (λ new. let l : 0 ≡ y.live = ap (λ (x : Entry). x.live) new.1 in absurd (omega (arith, bare, l)))
          (at_push ws u y j e)),
    )

pub leaves : (id : ℕ) (v : Entry) (k pool : ℕ) → v.live ≡ k → v.parts ≡ k → v.pool ≡ pool → v.out ≡ 0 → 1 ≤ k → Leaves id v k pool
leaves id v k pool all_live all_lent in_pool none_out some_live s u h at at_pool two =
    let vs = s.views in let n = slice_index s.words 0 in let v' = returned v k n in let ws = set vs id v' in let u' = fewer u k in let xs = set ws pool u' in
    let word = found s h in let total = h.1.0 in let m0 = h.2.1 in
    let a = changed live_of vs id v v' at in let b = changed held_of vs id v v' at in let c = changed lasts_of vs id v v' at in let d = changed excess vs id v v' at in
    let at_pool' : get_elem? ws pool ≡ some u = set_else vs id pool v' two ∙ at_pool in
    let a2 = changed live_of ws pool u u' at_pool' in let b2 = changed held_of ws pool u u' at_pool' in let c2 = changed lasts_of ws pool u u' at_pool' in let d2 = changed excess ws pool u u' at_pool' in
    let m = changed surplus vs id v v' at in let m2 = changed surplus ws pool u u' at_pool' in
    let mine_live = at_least live_of vs id v at in let mine_held = at_least held_of vs id v at in let mine_lasts = at_least lasts_of vs id v at in let mine_excess = at_least excess vs id v at in
    let out_is = h.2.0 pool u at_pool in let mine = here pool v in_pool in let some_of = at_least (parts_in pool) vs id v at in let under = parts_under pool vs m0 in
    let most : k ≤ u.out = omega (arith, out_is, mine, some_of, all_lent) in
    let low : u.out ≤ 2 ^ 62 = omega (arith, out_is, under, total) in
    let z1 = changed live_of vs id v spent at in let z2 = changed (parts_in pool) vs id v spent at in let z3 = changed surplus vs id v spent at in let z4 = at_most pool spent in let z5 = at_least surplus vs id v at in
    let rest_under = parts_under pool (set vs id spent) (omega (arith, z3, z5, m0)) in
    let only : n ≡ k → u.out ≡ k = λ e. omega (arith, e, word, z1, z2, z4, rest_under, out_is, mine, all_lent, all_live) in
    let none_lasts = h.1.2 (omega (arith, mine_live, all_live, some_live)) in let h3 = h.1.3 in
    let after : lowered k n ≡ n - k = less n k (omega (arith, word, mine_live, all_live)) (omega (arith, word, total)) in
    let live : sum_of live_of xs ≡ n - k = omega (arith, a, a2, word, all_live, mine_live) in
    let lasts_yes : n ≡ k → v'.lasts ≡ 1 = λ e. ap (λ y. either y 1 0) (eq-eqb n k e) in let lasts_no : ¬ (n ≡ k) → v'.lasts ≡ 0 = λ e. ap (λ y. either y 1 0) (ne_eqb n k e) in
    let pools : (b : ℕ) → sum_of (parts_in b) xs + parts_in b v ≡ sum_of (parts_in b) vs = λ b. let x = changed (parts_in b) vs id v v' at in let y = changed (parts_in b) ws pool u u' at_pool' in let z = at_most b v' in let same : parts_in b u' ≡ parts_in b u = refl in omega (arith, x, y, z, same) in
    -- who is bare beside it would have all live weight
    let nobody : (j : ℕ) (y : Entry) → get_elem? vs j ≡ some y → ¬ (j ≡ id) → y.parts < y.live → ⊥ = λ j y e else_ bare. let all = h.3 j y e bare in let both = two_at_least live_of vs id j v y at e else_ in omega (arith, all, both, all_live, some_live) in (
      most,
      low,
      refl,
      only,
      (
        ap (λ x. slice_set x 0 (lowered k n)) h.0 ∙ ap (λ (j : ℕ). j ∷ []) (after ∙ sym live),
        dite (ℕ_discrete n k)
            (λ e. let one = lasts_yes e in let all_out : sum_of live_of xs ≡ 0 = omega (arith, live, e) in
            (omega (arith, a, a2, b, b2, total, all_live), (λ z. omega (arith, c, c2, one, none_lasts, mine_lasts)), (λ z. omega (arith, z, all_out)), omega (arith, d, d2, h3, mine_excess, one, all_live, some_live)))
            (λ e. let zero_ = lasts_no e in
            (omega (arith, a, a2, b, b2, total, all_live), (λ z. absurd (e (omega (arith, z, live, word, mine_live, all_live)))), (λ z. omega (arith, c, c2, zero_, none_lasts, mine_lasts)), omega (arith, d, d2, h3, mine_excess, zero_))),
        (
          (λ j y e. let sums = pools j in ⊎_elim
              (λ same. let is : u.out - k ≡ y.out = ap (λ (x : Entry). x.out) same.1 in subst (λ i. y.out ≡ sum_of (parts_in i) xs) (sym same.0) (let sums' = pools pool in omega (arith, is, sums', out_is, mine, all_lent)))
              (λ stayed. ⊎_elim
              (λ same. let is : 0 ≡ y.out = ap (λ (x : Entry). x.out) same.1 in let old = h.2.0 j v (subst (λ i. get_elem? vs i ≡ some v) (sym same.0) at) in omega (arith, is, old, none_out, sums))
              (λ other. let old = h.2.0 j y other.1 in let apart = elsewhere j v (λ z. stayed.0 (sym z ∙ in_pool)) in omega (arith, old, apart, sums))
              (at_set vs id j v' y stayed.1))
              (at_set ws pool j u' y e)),
          omega (arith, m, m2, m0, z5),
          (λ j far. let none = h.2.2 j (let l1 = length-set ws pool u' in let l2 = length-set vs id v' in omega (arith, far, l1, l2)) in let sums = pools j in omega (arith, none, sums)),
        ),
        (λ j y e bare. absurd (⊎_elim
            (λ same. let l : u.live ≡ y.live = ap (λ (x : Entry). x.live) same.1 in let p : u.parts ≡ y.parts = ap (λ (x : Entry). x.parts) same.1 in nobody pool u at_pool two (omega (arith, bare, l, p)))
            (λ stayed. ⊎_elim
            (λ same. let l : 0 ≡ y.live = ap (λ (x : Entry). x.live) same.1 in omega (arith, bare, l))
            (λ other. nobody j y other.1 other.0 bare)
            (at_set vs id j v' y stayed.1))
            (at_set ws pool j u' y e))),
      ),
      (omega (arith, word, mine_live, all_live), (λ z. omega (arith, word, mine_live, mine_held, total, all_live, z))),
    )

pub claim_kept : (id : ℕ) (v : Entry) (k : ℕ) → v.live ≡ k → ClaimKept id v k
claim_kept id v k all_live s h at miss =
    let n = found s h in let a = at_least live_of s.views id v at in let b = at_least held_of s.views id v at in let total = h.1.0 in
    let parts : (claimed v k (slice_index s.words 0)).parts ≡ v.parts = ap (λ y. either y 0 v.parts) (ne_eqb (slice_index s.words 0) k miss) in
    (kept s id v (claimed v k (slice_index s.words 0)) h at refl refl refl parts refl refl, (omega (arith, n, a, all_live), (λ z. omega (arith, n, a, b, total, all_live, z))))

pub claim_taken : (id : ℕ) (v : Entry) (k pool : ℕ) → v.live ≡ k → v.parts ≡ k → v.pool ≡ pool → v.out ≡ 0 → 1 ≤ k → ClaimTaken id v k pool
claim_taken id v k pool all_live all_lent in_pool none_out some_live s u h at at_pool two is_k =
    let vs = s.views in let n = slice_index s.words 0 in let v' = claimed v k n in let ws = set vs id v' in let u' = emptied u in let xs = set ws pool u' in
    let word = found s h in let total = h.1.0 in let m0 = h.2.1 in
    let law = leaves id v k pool all_live all_lent in_pool none_out some_live s u h at at_pool two in
    let only = law.3 is_k in
    let no_parts : v'.parts ≡ 0 = ap (λ y. either y 0 v.parts) (eq-eqb n k is_k) in
    let at_pool' : get_elem? ws pool ≡ some u = set_else vs id pool v' two ∙ at_pool in
    let a = changed live_of vs id v v' at in let b = changed held_of vs id v v' at in let c = changed lasts_of vs id v v' at in let d = changed excess vs id v v' at in let m = changed surplus vs id v v' at in let m1 = at_least surplus vs id v at in
    let a2 = changed live_of ws pool u u' at_pool' in let b2 = changed held_of ws pool u u' at_pool' in let c2 = changed lasts_of ws pool u u' at_pool' in let d2 = changed excess ws pool u u' at_pool' in let m2 = changed surplus ws pool u u' at_pool' in
    let live : sum_of live_of xs ≡ sum_of live_of vs = omega (arith, a, a2) in
    let out_is = h.2.0 pool u at_pool in let mine = here pool v in_pool in
    let pools : (b : ℕ) → sum_of (parts_in b) xs + parts_in b v ≡ sum_of (parts_in b) vs = λ b. let x = changed (parts_in b) vs id v v' at in let y = changed (parts_in b) ws pool u u' at_pool' in let z = at_most b v' in let same : parts_in b u' ≡ parts_in b u = refl in omega (arith, x, y, z, same, no_parts) in
    let mine_live = at_least live_of vs id v at in let mine_held = at_least held_of vs id v at in
    let nobody : (j : ℕ) (y : Entry) → get_elem? vs j ≡ some y → ¬ (j ≡ id) → y.parts < y.live → ⊥ = λ j y e else_ bare. let all = h.3 j y e bare in let both = two_at_least live_of vs id j v y at e else_ in omega (arith, all, both, all_live, some_live) in (
      only,
      refl,
      (
        ap (λ x. slice_set x 0 n) h.0 ∙ ap (λ (j : ℕ). j ∷ []) (word ∙ sym live),
        books_from vs xs live (omega (arith, b, b2)) (omega (arith, c, c2)) (omega (arith, d, d2)) h.1,
        (
          (λ j y e. let sums = pools j in ⊎_elim
              (λ same. let is : 0 ≡ y.out = ap (λ (x : Entry). x.out) same.1 in subst (λ i. y.out ≡ sum_of (parts_in i) xs) (sym same.0) (let sums' = pools pool in omega (arith, is, sums', out_is, mine, all_lent, only)))
              (λ stayed. ⊎_elim
              (λ same. let is : v.out ≡ y.out = ap (λ (x : Entry). x.out) same.1 in let old = h.2.0 j v (subst (λ i. get_elem? vs i ≡ some v) (sym same.0) at) in omega (arith, is, old, none_out, sums))
              (λ other. let old = h.2.0 j y other.1 in let apart = elsewhere j v (λ z. stayed.0 (sym z ∙ in_pool)) in omega (arith, old, apart, sums))
              (at_set vs id j v' y stayed.1))
              (at_set ws pool j u' y e)),
          omega (arith, m, m2, m0, m1, no_parts),
          (λ j far. let none = h.2.2 j (let l1 = length-set ws pool u' in let l2 = length-set vs id v' in omega (arith, far, l1, l2)) in let sums = pools j in omega (arith, none, sums)),
        ),
        (λ j y e bare. ⊎_elim
            (λ same. let l : u.live ≡ y.live = ap (λ (x : Entry). x.live) same.1 in let p : u.parts ≡ y.parts = ap (λ (x : Entry). x.parts) same.1 in absurd (nobody pool u at_pool two (omega (arith, bare, l, p))))
            (λ stayed. ⊎_elim
            (λ same. let l : v.live ≡ y.live = ap (λ (x : Entry). x.live) same.1 in omega (arith, l, live, word, is_k, all_live))
            (λ other. absurd (nobody j y other.1 other.0 bare))
            (at_set vs id j v' y stayed.1))
            (at_set ws pool j u' y e)),
      ),
      (omega (arith, word, mine_live, all_live), (λ z. is_k)),
    )
