-- Sums over the seats' entries, and what the accounts say of one entry.
use Rattle.std.proofs.Common.{◌≡◌, ℕ, zero, suc, ◌+◌, ◌-◌, ◌^◌, ◌≤◌, ◌<◌, List, [], ◌∷◌, ◌++◌, length, set, sym, refl, ap, ◌∙◌, arith, eq-eqb, ne_eqb}
use Rattle.std.specs.Prelude.{slice_index}
use mathlib.Core.Option.{some, some-injective, some-ne-none}
use mathlib.Core.Logic.{dite, ◌⊎◌, inl, inr, ⊎_elim}
use native.Mathlib.Decide.{ℕ_discrete}
use lib.ListN.{get_elem?}
use prog.Atomic.{either}
use Rattle.atomic_table.specs.Table.{State}
use Rattle.counted_payload.specs.declared.Entry.{Entry}
use Rattle.counted_payload.specs.Accounts.{spent, sum_of, live_of, held_of, lasts_of, excess, surplus, parts_in, Books, Accounted, lowered}

-- the sum over all seats but the one at i
abbrev others : (Entry → ℕ) → List Entry → ℕ → ℕ
others f [] i = 0
others f (x ∷ xs) zero = sum_of f xs
others f (x ∷ xs) (suc i) = f x + others f xs i

-- a sum is what one seat adds and what the others add, before and after that seat's entry changes
pub split_off : (f : Entry → ℕ) (vs : List Entry) (i : ℕ) (v w : Entry) → get_elem? vs i ≡ some v → (sum_of f vs ≡ f v + others f vs i) × (sum_of f (set vs i w) ≡ f w + others f vs i)
split_off f [] i v w at = absurd (some-ne-none v (sym at))
split_off f (x ∷ xs) zero v w at = let same : f x ≡ f v = ap f (some-injective x v at) in (omega (arith, same), omega arith)
split_off f (x ∷ xs) (suc i) v w at = let both = split_off f xs i v w at in let before = both.0 in let after = both.1 in (omega (arith, before), omega (arith, after))

-- so changing one entry changes the sum by the difference
pub changed : (f : Entry → ℕ) (vs : List Entry) (i : ℕ) (v w : Entry) → get_elem? vs i ≡ some v → sum_of f (set vs i w) + f v ≡ sum_of f vs + f w
changed f vs i v w at = let both = split_off f vs i v w at in let before = both.0 in let after = both.1 in omega (arith, before, after)

-- and one entry adds no more than all
pub at_least : (f : Entry → ℕ) (vs : List Entry) (i : ℕ) (v : Entry) → get_elem? vs i ≡ some v → f v ≤ sum_of f vs
at_least f vs i v at = let both = split_off f vs i v v at in let before = both.0 in omega (arith, before)

-- a seat is among the others of another seat
among : (f : Entry → ℕ) (vs : List Entry) (i j : ℕ) (w : Entry) → get_elem? vs j ≡ some w → ¬ (j ≡ i) → f w ≤ others f vs i
among f [] i j w at two = absurd (some-ne-none w (sym at))
among f (x ∷ xs) zero zero w at two = absurd (two refl)
among f (x ∷ xs) zero (suc j) w at two = at_least f xs j w at
among f (x ∷ xs) (suc i) zero w at two = let same : f x ≡ f w = ap f (some-injective x w at) in omega (arith, same)
among f (x ∷ xs) (suc i) (suc j) w at two = let rest = among f xs i j w at (λ e. two (ap suc e)) in omega (arith, rest)

pub two_at_least : (f : Entry → ℕ) (vs : List Entry) (i j : ℕ) (v w : Entry) → get_elem? vs i ≡ some v → get_elem? vs j ≡ some w → ¬ (j ≡ i) → f v + f w ≤ sum_of f vs
two_at_least f vs i j v w at at' two = let both = split_off f vs i v v at in let before = both.0 in let other = among f vs i j w at' two in omega (arith, before, other)

pub with_new : (f : Entry → ℕ) (vs : List Entry) (v : Entry) → sum_of f (vs ++ v ∷ []) ≡ sum_of f vs + f v
with_new f [] v = omega arith
with_new f (x ∷ vs) v = let rest = with_new f vs v in omega (arith, rest)

pub at_less : (vs : List Entry) (i : ℕ) (v : Entry) → get_elem? vs i ≡ some v → i < length vs
at_less [] i v at = absurd (some-ne-none v (sym at))
at_less (x ∷ vs) zero v at = omega arith
at_less (x ∷ vs) (suc i) v at = let rest = at_less vs i v at in omega (arith, rest)

pub at_push : (vs : List Entry) (a b : Entry) (j : ℕ) → get_elem? (vs ++ a ∷ []) j ≡ some b → (get_elem? vs j ≡ some b) ⊎ ((j ≡ length vs) × (a ≡ b))
at_push [] a b zero e = inr (refl, some-injective a b e)
at_push [] a b (suc j) e = absurd (some-ne-none b (sym e))
at_push (x ∷ xs) a b zero e = inl e
at_push (x ∷ xs) a b (suc j) e = ⊎_elim (λ h. inl h) (λ h. inr (ap suc h.0, h.1)) (at_push xs a b j e)

pub length_push : (vs : List Entry) (v : Entry) → length (vs ++ v ∷ []) ≡ suc (length vs)
length_push [] v = refl
length_push (x ∷ vs) v = ap suc (length_push vs v)

pub here : (b : ℕ) (v : Entry) → v.pool ≡ b → parts_in b v ≡ v.parts
here b v e = ap (λ y. either y v.parts 0) (eq-eqb v.pool b e)

pub elsewhere : (b : ℕ) (v : Entry) → ¬ (v.pool ≡ b) → parts_in b v ≡ 0
elsewhere b v n = ap (λ y. either y v.parts 0) (ne_eqb v.pool b n)

pub at_most : (b : ℕ) (v : Entry) → parts_in b v ≤ v.parts
at_most b v = dite (ℕ_discrete v.pool b) (λ e. let h = here b v e in omega (arith, h)) (λ n. let h = elsewhere b v n in omega (arith, h))

-- a pool has no more out than there is live weight
pub parts_under : (b : ℕ) (vs : List Entry) → sum_of surplus vs ≡ 0 → sum_of (parts_in b) vs ≤ sum_of live_of vs
parts_under b [] h = omega arith
parts_under b (x ∷ vs) h = let rest = parts_under b vs (omega arith) in let one = at_most b x in omega (arith, rest, one)

-- lasts come with weight held
pub lasts_under : (vs : List Entry) → sum_of excess vs ≡ 0 → sum_of lasts_of vs ≤ sum_of held_of vs
lasts_under [] h = omega arith
lasts_under (x ∷ vs) h = let rest = lasts_under vs (omega arith) in omega (arith, rest)

-- the books see four sums
pub books_from : (vs ws : List Entry) → sum_of live_of ws ≡ sum_of live_of vs → sum_of held_of ws ≡ sum_of held_of vs → sum_of lasts_of ws ≡ sum_of lasts_of vs → sum_of excess ws ≡ sum_of excess vs → Books vs → Books ws
books_from vs ws a b c d h = let h0 = h.0 in let h3 = h.3 in
    (omega (arith, a, b, h0), (λ z. let one = h.1 (omega (arith, a, z)) in omega (arith, c, one)), (λ z. let none = h.2 (omega (arith, a, z)) in omega (arith, c, none)), omega (arith, d, h3))

pub found : (s : State (Unit {0}) Entry) → Accounted s → slice_index s.words 0 ≡ sum_of live_of s.views
found s h = ap (λ x. slice_index x 0) h.0

pub less : (n k : ℕ) → k ≤ n → n ≤ 2 ^ 62 → lowered k n ≡ n - k
less n k le low = omega arith

-- what the books say of one entry
pub told : (vs : List Entry) (id : ℕ) (v : Entry) → Books vs → get_elem? vs id ≡ some v → (v.live + v.held ≤ 2 ^ 62) × (0 < v.live → v.lasts ≡ 0) × (v.held ≡ 2 ^ 62 → v.lasts ≡ 1) × (v.lasts ≤ 1)
told vs id v h at =
    let a = at_least live_of vs id v at in let b = at_least held_of vs id v at in let c = at_least lasts_of vs id v at in let d = at_least excess vs id v at in
    let total = h.0 in let h3 = h.3 in (
      omega (arith, a, b, total),
      (λ z. let none = h.2 (omega (arith, a, z)) in omega (arith, c, none)),
      (λ z. let over : sum_of live_of vs ≡ 0 = omega (arith, a, b, total, z) in let one = h.1 over in
          let e = changed held_of vs id v spent at in let f = changed lasts_of vs id v spent at in let g = changed excess vs id v spent at in
          let rest = lasts_under (set vs id spent) (omega (arith, d, g, h3)) in
          omega (arith, b, c, e, f, rest, one, over, total, z)),
      dite (ℕ_discrete (sum_of live_of vs) 0) (λ z. let one = h.1 z in omega (arith, c, one)) (λ z. let none = h.2 (omega (arith, z)) in omega (arith, c, none)),
    )

-- what is alone has all live weight
pub all_live : (s : State (Unit {0}) Entry) (id : ℕ) (v : Entry) → Accounted s → get_elem? s.views id ≡ some v → v.parts < v.live → slice_index s.words 0 ≡ v.live
all_live s id v h at apart = found s h ∙ sym (h.3 id v at apart)
