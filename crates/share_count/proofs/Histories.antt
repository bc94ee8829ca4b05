-- Each event keeps what is right of a stock.
use Rattle.std.proofs.Common.{◌≡◌, ℕ, zero, suc, ◌+◌, ◌-◌, ◌≤◌, ◌<◌, List, [], ◌∷◌, ◌++◌, length, set, Some, None, Option, Bool, true, false, sym, refl, ap, ◌∙◌, arith, subst, eq-eqb, ne_eqb}
use Rattle.std.proofs.lemmas.Option.{none-some, same_Some}
use Rattle.std.proofs.lemmas.Bool.{ltb-true, eqb-true, true≢false}
use Rattle.std.specs.Prelude.{if◌then◌else◌, ◌==◌, ◌&&◌, not, nat_lt}
use mathlib.Core.Logic.{dite, ⊎_elim}
use native.Mathlib.Decide.{ℕ_discrete}
use Rattle.share_count.specs.Weights.{full, part}
use Rattle.share_count.specs.Histories.{Storage, Hold, Slip, Stock, Event, make, share, look, write, give, run, join, absorb, find, hold, slip, made, shared, written, given, paid_out, ran, joined, absorbed, with_hold, step}
use Rattle.share_count.specs.Accounting.{over, of, live, taken_in, given_back, lasts, IsHoused, IsBalanced, Shows, IsRight}
use Rattle.share_count.proofs.Shelves.{of_here, of_else, of_sum, over_set, over_push, over_at, over_two, over_none, find_less, find_same, find_else, find_set, find_old, find_new, find_push, length_push, length_set}

-- the same storages, and the same sums
balanced_from : (s t : Stock) (i : ℕ) (b : Storage) → over (live i) t.holds ≡ over (live i) s.holds → over (taken_in i) t.holds + over (given_back i) t.slips ≡ over (taken_in i) s.holds + over (given_back i) s.slips
    → over (lasts i) t.slips ≡ over (lasts i) s.slips → IsBalanced s i b → IsBalanced t i b
balanced_from s t i b a g l h = let h0 = h.0 in let h1 = h.1 in (
  omega (arith, h0, a),
  omega (arith, h1, a, g),
  (λ z. let one = h.2 z in omega (arith, one, l)),
  (λ z. let none = h.3 z in omega (arith, none, l)),
  h.4,
)

-- a hold that shows a storage is over one that is there
shown : (u : Hold) (o : Option Storage) → Shows u o → (b : Storage) × (o ≡ Some b) × (1 ≤ u.weight) × (b.payload ≡ Some u.bytes)
shown u None h = absurd h
shown u (Some b) h = (b, refl, h.0, h.1)

shows_at : (u : Hold) (o : Option Storage) (b : Storage) → o ≡ Some b → 1 ≤ u.weight → b.payload ≡ Some u.bytes → Shows u o
shows_at u o b at some_weight same = subst (Shows u) (sym at) (some_weight, same)

module _ (s : Stock) (right : IsRight s) where
  made_right : (bytes : List ℕ) → IsRight (made s bytes)
  made_right bytes =
      let n = length s.storages in let b₀ : Storage = record { word = full; payload = Some bytes; runs = 0 } in let u₀ = hold n full 0 bytes in let t = made s bytes in
      let there : (h : ℕ) (u : Hold) → find s.holds h ≡ Some u → u.storage < n = λ h u at. let x = shown u _ (right.1 h u at) in find_less s.storages u.storage x.0 x.1 in
      let a : (i : ℕ) → over (live i) t.holds ≡ over (live i) s.holds + of i n full = λ i. over_push (live i) s.holds (Some u₀) in
      let g : (i : ℕ) → over (taken_in i) t.holds ≡ over (taken_in i) s.holds = λ i. let p = over_push (taken_in i) s.holds (Some u₀) in
      let z : of i n 0 ≡ 0 = dite (ℕ_discrete n i) (λ e. of_here i n 0 e) (λ e. of_else i n 0 e) in omega (arith, p, z) in (
        (λ i b at. ⊎_elim
            (λ old. let before = find_less s.storages i b old in let none = of_else i n full (λ e. omega (arith, before, e)) in let x = a i in let y = g i in
            balanced_from s t i b (omega (arith, x, none)) (omega (arith, y)) refl (right.0 i b old))
            (λ new. let here = of_here i n full (sym new.0) in let x = a i in let y = g i in
            let no_live = over_none (live i) s.holds (λ h u at. let l = there h u at in of_else i u.storage u.weight (λ e. let k = new.0 in omega (arith, l, e, k))) in
            let no_taken = over_none (taken_in i) s.holds (λ h u at. let l = there h u at in of_else i u.storage u.absorbed (λ e. let k = new.0 in omega (arith, l, e, k))) in
            let no_given = over_none (given_back i) s.slips (λ r z at. let l = (right.2 r z at).1 in of_else i z.storage z.weight (λ e. let k = new.0 in omega (arith, l, e, k))) in
            let no_lasts = over_none (lasts i) s.slips (λ r z at. let l = (right.2 r z at).1 in of_else i z.storage z.lasts (λ e. let k = new.0 in omega (arith, l, e, k))) in
            subst (λ (c : Storage). IsBalanced t i c) (same_Some b₀ b new.1) (omega (arith, x, here, no_live), omega (arith, x, y, here, no_live, no_taken, no_given), (λ z. absurd (omega (arith, z))), (λ z. no_lasts), refl))
            (find_push s.storages i b (Some b₀) at)),
        (λ h u at. ⊎_elim
            (λ old. let x = shown u _ (right.1 h u old) in shows_at u _ x.0 (find_old s.storages u.storage x.0 (Some b₀) x.1) x.2 x.3)
            (λ new. subst (λ (v : Hold). Shows v (find t.storages v.storage)) (same_Some u₀ u new.1) (shows_at u₀ _ b₀ (find_new s.storages (Some b₀)) (omega arith) refl))
            (find_push s.holds h u (Some u₀) at)),
        (λ r x at. let old = right.2 r x at in let longer = length_push s.storages (Some b₀) in let less = old.1 in (old.0, omega (arith, less, longer))),
      )

  shared_right : (h : ℕ) (o : Option Hold) → find s.holds h ≡ o → IsRight (shared s h o)
  shared_right h None at = right
  shared_right h (Some u) at = shared_if (nat_lt 1 u.weight) refl
    where
      stays : Hold
      stays = record u { weight = u.weight - part u.weight }

      goes : Hold
      goes = hold u.storage (part u.weight) 0 u.bytes

      t : Stock
      t = record s { holds = set s.holds h (Some stays) ++ Some goes ∷ [] }

      shared_if : (c : Bool) → nat_lt 1 u.weight ≡ c → IsRight (if c then t else s)
      shared_if false is = right
      shared_if true is =
          let more : 1 < u.weight = ltb-true 1 u.weight is in let few : part u.weight < u.weight = omega (arith, more) in let some_of : 1 ≤ part u.weight = omega arith in
          let mine = shown u _ (right.1 h u at) in (
            (λ i b here. let a = over_set (live i) s.holds h u (Some stays) at in let a2 = over_push (live i) (set s.holds h (Some stays)) (Some goes) in
                let halves = of_sum i u.storage (u.weight - part u.weight) (part u.weight) in let all : of i u.storage ((u.weight - part u.weight) + part u.weight) ≡ of i u.storage u.weight = ap (of i u.storage) (omega (arith, few)) in
                let g = over_set (taken_in i) s.holds h u (Some stays) at in let g2 = over_push (taken_in i) (set s.holds h (Some stays)) (Some goes) in let z = of_sum i u.storage 0 0 in
                balanced_from s t i b (omega (arith, a, a2, halves, all)) (omega (arith, g, g2, z)) refl (right.0 i b here)),
            (λ k v at'. ⊎_elim
                (λ old. ⊎_elim
                (λ same. subst (λ (w : Hold). Shows w (find s.storages w.storage)) (same_Some stays v same.1) (shows_at stays _ mine.0 mine.1 (omega (arith, few)) mine.3))
                (λ else_. right.1 k v else_.1)
                (find_set s.holds h k u v (Some stays) at old))
                (λ new. subst (λ (w : Hold). Shows w (find s.storages w.storage)) (same_Some goes v new.1) (shows_at goes _ mine.0 mine.1 some_of mine.3))
                (find_push (set s.holds h (Some stays)) k v (Some goes) at')),
            right.2,
          )

  -- whose weight is the word of its storage has no other beside it
  pub sole : (h k : ℕ) (u v : Hold) (b : Storage) → find s.holds h ≡ Some u → find s.holds k ≡ Some v → find s.storages u.storage ≡ Some b → b.word ≡ u.weight → v.storage ≡ u.storage → k ≡ h
  sole h k u v b at at' there own same = dite (ℕ_discrete k h) (λ e. e) (λ two.
      let both = over_two (live u.storage) s.holds h k u v at at' two in let a = of_here u.storage u.storage u.weight refl in let c = of_here u.storage v.storage v.weight same in
      let some_of = (shown v _ (right.1 k v at')).2 in let word = (right.0 u.storage b there).0 in absurd (omega (arith, both, a, c, some_of, word, own)))

  written_right : (h : ℕ) (bytes : List ℕ) (u : Hold) (b : Storage) → find s.holds h ≡ Some u → find s.storages u.storage ≡ Some b → IsRight (written s h bytes u (Some b))
  written_right h bytes u b at there = written_if (b.word == u.weight) refl
    where
      stored : Storage
      stored = record b { payload = Some bytes }

      wrote : Hold
      wrote = record u { bytes = bytes }

      t : Stock
      t = record { storages = set s.storages u.storage (Some stored); holds = set s.holds h (Some wrote); slips = s.slips }

      same_sums : (i : ℕ) (c : Storage) → IsBalanced s i c → IsBalanced t i c
      same_sums i c = let a = over_set (live i) s.holds h u (Some wrote) at in let g = over_set (taken_in i) s.holds h u (Some wrote) at in balanced_from s t i c (omega (arith, a)) (omega (arith, g)) refl

      written_if : (c : Bool) → (b.word == u.weight) ≡ c → IsRight (if c then t else s)
      written_if false is = right
      written_if true is =
          let own : b.word ≡ u.weight = eqb-true b.word u.weight is in let mine = shown u _ (right.1 h u at) in
          let at_home : b.payload ≡ Some u.bytes = ap (λ (c : Storage). c.payload) (same_Some b mine.0 (sym there ∙ mine.1)) ∙ mine.3 in
          let r = right.0 u.storage b there in let none_ran : b.runs ≡ 0 = subst (IsHoused b) at_home r.4 in (
            (λ i c at'. ⊎_elim
                (λ same. let x = same_sums u.storage b r in
                subst (λ (d : Storage). IsBalanced t i d) (same_Some stored c same.1) (subst (λ j. IsBalanced t j stored) (sym same.0) (x.0, x.1, x.2, x.3, none_ran)))
                (λ else_. same_sums i c (right.0 i c else_.1))
                (find_set s.storages u.storage i b c (Some stored) there at')),
            (λ k v at'. ⊎_elim
                (λ same. subst (λ (w : Hold). Shows w (find t.storages w.storage)) (same_Some wrote v same.1) (shows_at wrote _ stored (find_same s.storages u.storage b (Some stored) there) mine.2 refl))
                (λ else_. let x = shown v _ (right.1 k v else_.1) in
                shows_at v _ x.0 (find_else s.storages u.storage v.storage (Some stored) (λ e. else_.0 (sole h k u v b at else_.1 there own e)) ∙ x.1) x.2 x.3)
                (find_set s.holds h k u v (Some wrote) at at')),
            (λ r x at'. let old = right.2 r x at' in let long = length_set s.storages u.storage (Some stored) in let less = old.1 in (old.0, omega (arith, less, long))),
          )

  given_right : (h : ℕ) (u : Hold) (b : Storage) → find s.holds h ≡ Some u → find s.storages u.storage ≡ Some b → IsRight (given s h u (Some b))
  given_right h u b at there =
      let n = u.storage in let l : ℕ = if b.word == u.weight then 1 else 0 in let b' : Storage = record b { word = b.word - u.weight } in let x' = slip n (u.weight + u.absorbed) l in
      let t = given s h u (Some b) in let mine = shown u _ (right.1 h u at) in let some_of = mine.2 in let r = right.0 n b there in let word = r.0 in
      let at_home : b.payload ≡ Some u.bytes = ap (λ (c : Storage). c.payload) (same_Some b mine.0 (sym there ∙ mine.1)) ∙ mine.3 in
      let none_ran : b.runs ≡ 0 = subst (IsHoused b) at_home r.4 in
      let a : (i : ℕ) → over (live i) t.holds + of i n u.weight ≡ over (live i) s.holds = λ i. let p = over_set (live i) s.holds h u None at in omega (arith, p) in
      let g : (i : ℕ) → over (taken_in i) t.holds + over (given_back i) t.slips ≡ over (taken_in i) s.holds + over (given_back i) s.slips + of i n u.weight =
      λ i. let p = over_set (taken_in i) s.holds h u None at in let q = over_push (given_back i) s.slips (Some x') in let z = of_sum i n u.weight u.absorbed in omega (arith, p, q, z) in
      let m : (i : ℕ) → over (lasts i) t.slips ≡ over (lasts i) s.slips + of i n l = λ i. over_push (lasts i) s.slips (Some x') in
      let mine_live = over_at (live n) s.holds h u at in let here = of_here n n u.weight refl in let here' = of_here n n l refl in
      let before = r.3 (omega (arith, word, mine_live, here, some_of)) in (
        (λ i c at'. ⊎_elim
            (λ same. let y = a n in let z = g n in let k = m n in let total = r.1 in
            subst (λ (d : Storage). IsBalanced t i d) (same_Some b' c same.1) (subst (λ j. IsBalanced t j b') (sym same.0) (
              omega (arith, word, y, here),
              omega (arith, total, y, z, here),
              (λ over_. let own : b.word ≡ u.weight = omega (arith, over_, word, mine_live, here) in let one : l ≡ 1 = ap (λ q. if q then 1 else 0) (eq-eqb b.word u.weight own) in omega (arith, k, here', one, before)),
              (λ more. let none : l ≡ 0 = ap (λ q. if q then 1 else 0) (ne_eqb b.word u.weight (λ own. omega (arith, more, own))) in omega (arith, k, here', none, before)),
              subst (λ (o : Option (List ℕ)). IsHoused b' o) (sym at_home) none_ran,
            )))
            (λ else_. let y = a i in let z = g i in let k = m i in let off = of_else i n u.weight (λ e. else_.0 (sym e)) in let off' = of_else i n l (λ e. else_.0 (sym e)) in
            balanced_from s t i c (omega (arith, y, off)) (omega (arith, z, off)) (omega (arith, k, off')) (right.0 i c else_.1))
            (find_set s.storages n i b c (Some b') there at')),
        (λ k v at'. ⊎_elim
            (λ same. absurd (none-some v same.1))
            (λ else_. let x = shown v _ (right.1 k v else_.1) in dite (ℕ_discrete v.storage n)
            (λ e. let is : x.0 ≡ b = same_Some x.0 b (sym x.1 ∙ ap (λ j. find s.storages j) e ∙ there) in
            shows_at v _ b' (ap (λ j. find t.storages j) e ∙ find_same s.storages n b (Some b') there) x.2 (ap (λ (c : Storage). c.payload) (sym is) ∙ x.3))
            (λ e. shows_at v _ x.0 (find_else s.storages n v.storage (Some b') e ∙ x.1) x.2 x.3))
            (find_set s.holds h k u v None at at')),
        (λ q x at'. let long = length_set s.storages n (Some b') in ⊎_elim
            (λ old. let was = right.2 q x old in let less = was.1 in (was.0, omega (arith, less, long)))
            (λ new. let w : u.weight + u.absorbed ≡ x.weight = ap (λ (y : Slip). y.weight) (same_Some x' x new.1) in let j : n ≡ x.storage = ap (λ (y : Slip). y.storage) (same_Some x' x new.1) in
            let less = find_less s.storages n b there in (omega (arith, w, some_of), omega (arith, j, less, long)))
            (find_push s.slips q x (Some x') at')),
      )

  paid_right : (i : ℕ) (b : Storage) (word : ℕ) (payload : Option (List ℕ)) → b.word ≡ word → b.payload ≡ payload → find s.storages i ≡ Some b → IsRight (paid_out s i b word payload)
  paid_right i b zero None none gone there = right
  paid_right i b (suc n) payload none gone there = right
  paid_right i b zero (Some bytes) none at_home there =
      let b' : Storage = record { word = 0; payload = None; runs = b.runs + 1 } in let t : Stock = record s { storages = set s.storages i (Some b') } in let r = right.0 i b there in let word = r.0 in
      let none_ran : b.runs ≡ 0 = subst (IsHoused b) at_home r.4 in
      let nobody : (h : ℕ) (u : Hold) → find s.holds h ≡ Some u → ¬ (u.storage ≡ i) = λ h u at e.
      let some_of = (shown u _ (right.1 h u at)).2 in let part_of = over_at (live i) s.holds h u at in let here = of_here i u.storage u.weight e in omega (arith, some_of, part_of, here, word, none) in (
        (λ j c at'. ⊎_elim
            (λ same. let total = r.1 in let one = r.2 none in
            subst (λ (d : Storage). IsBalanced t j d) (same_Some b' c same.1) (subst (λ k. IsBalanced t k b') (sym same.0) (omega (arith, word, none), total, (λ z. one), (λ z. absurd (omega (arith, z))), (refl, omega (arith, none_ran)))))
            (λ else_. right.0 j c else_.1)
            (find_set s.storages i j b c (Some b') there at')),
        (λ h u at. let x = shown u _ (right.1 h u at) in shows_at u _ x.0 (find_else s.storages i u.storage (Some b') (nobody h u at) ∙ x.1) x.2 x.3),
        (λ q x at'. let long = length_set s.storages i (Some b') in let was = right.2 q x at' in let less = was.1 in (was.0, omega (arith, less, long))),
      )

  joined_right : (r q : ℕ) (o p : Option Slip) → find s.slips r ≡ o → find s.slips q ≡ p → IsRight (joined s r q o p)
  joined_right r q None p at at' = right
  joined_right r q (Some x) None at at' = right
  joined_right r q (Some x) (Some y) at at' = joined_if (x.storage == y.storage) (r == q) refl refl
    where
      both : Slip
      both = slip x.storage (x.weight + y.weight) (x.lasts + y.lasts)

      t : Stock
      t = record s { slips = set (set s.slips r (Some both)) q None }

      joined_if : (c d : Bool) → (x.storage == y.storage) ≡ c → (r == q) ≡ d → IsRight (if c && not d then t else s)
      joined_if false d is apart = right
      joined_if true true is apart = right
      joined_if true false is apart =
          let one : x.storage ≡ y.storage = eqb-true x.storage y.storage is in
          let two : ¬ (q ≡ r) = λ e. true≢false (sym (eq-eqb r q (sym e)) ∙ apart) in
          let at2 : find (set s.slips r (Some both)) q ≡ Some y = find_else s.slips r q (Some both) two ∙ at' in
          let sums : (f : ℕ → Slip → ℕ) (i : ℕ) → f i both ≡ f i x + f i y → over (f i) t.slips ≡ over (f i) s.slips =
          λ f i add. let a = over_set (f i) s.slips r x (Some both) at in let b = over_set (f i) (set s.slips r (Some both)) q y None at2 in omega (arith, a, b, add) in
          let weights : (i : ℕ) → given_back i both ≡ given_back i x + given_back i y = λ i. of_sum i x.storage x.weight y.weight ∙ ap (λ j. of i x.storage x.weight + of i j y.weight) one in
          let ends : (i : ℕ) → lasts i both ≡ lasts i x + lasts i y = λ i. of_sum i x.storage x.lasts y.lasts ∙ ap (λ j. of i x.storage x.lasts + of i j y.lasts) one in (
            (λ i b there. balanced_from s t i b refl (let g = sums given_back i (weights i) in omega (arith, g)) (sums lasts i (ends i)) (right.0 i b there)),
            right.1,
            (λ k z at3. ⊎_elim
                (λ gone. absurd (none-some z gone.1))
                (λ stayed. ⊎_elim
                (λ same. let w : x.weight + y.weight ≡ z.weight = ap (λ (v : Slip). v.weight) (same_Some both z same.1) in let j : x.storage ≡ z.storage = ap (λ (v : Slip). v.storage) (same_Some both z same.1) in
                let was = right.2 r x at in let some_of = was.0 in let less = was.1 in (omega (arith, w, some_of), omega (arith, j, less)))
                (λ else_. right.2 k z else_.1)
                (find_set s.slips r k x z (Some both) at stayed.1))
                (find_set (set s.slips r (Some both)) q k y z None at2 at3)),
          )

  absorbed_right : (h r : ℕ) (o : Option Hold) (p : Option Slip) → find s.holds h ≡ o → find s.slips r ≡ p → IsRight (absorbed s h r o p)
  absorbed_right h r None p at at' = right
  absorbed_right h r (Some u) None at at' = right
  absorbed_right h r (Some u) (Some x) at at' = absorbed_if (u.storage == x.storage) refl
    where
      grown : Hold
      grown = record u { absorbed = u.absorbed + x.weight }

      t : Stock
      t = record s { holds = set s.holds h (Some grown); slips = set s.slips r None }

      absorbed_if : (c : Bool) → (u.storage == x.storage) ≡ c → IsRight (if c then t else s)
      absorbed_if false is = right
      absorbed_if true is =
          let one : u.storage ≡ x.storage = eqb-true u.storage x.storage is in let mine = shown u _ (right.1 h u at) in
          let a : (i : ℕ) → over (live i) t.holds ≡ over (live i) s.holds = λ i. let p = over_set (live i) s.holds h u (Some grown) at in omega (arith, p) in
          let g : (i : ℕ) → over (taken_in i) t.holds + over (given_back i) t.slips ≡ over (taken_in i) s.holds + over (given_back i) s.slips =
          λ i. let p = over_set (taken_in i) s.holds h u (Some grown) at in let q = over_set (given_back i) s.slips r x None at' in let z = of_sum i u.storage u.absorbed x.weight in
          let k : of i u.storage x.weight ≡ of i x.storage x.weight = ap (λ j. of i j x.weight) one in omega (arith, p, q, z, k) in
          let none_last : (i : ℕ) (b : Storage) → find s.storages i ≡ Some b → lasts i x ≡ 0 = λ i b there. dite (ℕ_discrete x.storage i)
          (λ e. let here = of_here i u.storage u.weight (one ∙ e) in let part_of = over_at (live i) s.holds h u at in let some_of = mine.2 in let bal = right.0 i b there in let word = bal.0 in
          let none = bal.3 (omega (arith, word, here, part_of, some_of)) in let most = over_at (lasts i) s.slips r x at' in omega (arith, none, most))
          (λ e. of_else i x.storage x.lasts e) in (
            (λ i b there. let m = over_set (lasts i) s.slips r x None at' in let z = none_last i b there in balanced_from s t i b (a i) (g i) (omega (arith, m, z)) (right.0 i b there)),
            (λ k v at2. ⊎_elim
                (λ same. subst (λ (w : Hold). Shows w (find s.storages w.storage)) (same_Some grown v same.1) (shows_at grown _ mine.0 mine.1 mine.2 mine.3))
                (λ else_. right.1 k v else_.1)
                (find_set s.holds h k u v (Some grown) at at2)),
            (λ k z at3. ⊎_elim
                (λ gone. absurd (none-some z gone.1))
                (λ else_. right.2 k z else_.1)
                (find_set s.slips r k x z None at' at3)),
          )

  with_right : (h : ℕ) (f : Hold → Option Storage → Stock) (o : Option Hold) → find s.holds h ≡ o → ((u : Hold) (p : Option Storage) → find s.holds h ≡ Some u → find s.storages u.storage ≡ p → IsRight (f u p)) → IsRight (with_hold s o f)
  with_right h f None at k = right
  with_right h f (Some u) at k = k u (find s.storages u.storage) at refl

  ran_right : (i : ℕ) (o : Option Storage) → find s.storages i ≡ o → IsRight (ran s i o)
  ran_right i None at = right
  ran_right i (Some b) at = paid_right i b b.word b.payload refl refl at

  written_any : (h : ℕ) (bytes : List ℕ) (u : Hold) (p : Option Storage) → find s.holds h ≡ Some u → find s.storages u.storage ≡ p → IsRight (written s h bytes u p)
  written_any h bytes u None at there = right
  written_any h bytes u (Some b) at there = written_right h bytes u b at there

  given_any : (h : ℕ) (u : Hold) (p : Option Storage) → find s.holds h ≡ Some u → find s.storages u.storage ≡ p → IsRight (given s h u p)
  given_any h u None at there = right
  given_any h u (Some b) at there = given_right h u b at there

  pub step_right : (e : Event) → IsRight (step s e)
  step_right (make bytes) = made_right bytes
  step_right (share h) = shared_right h (find s.holds h) refl
  step_right (look h) = right
  step_right (write h bytes) = with_right h (written s h bytes) (find s.holds h) refl (written_any h bytes)
  step_right (give h) = with_right h (given s h) (find s.holds h) refl (given_any h)
  step_right (run i) = ran_right i (find s.storages i) refl
  step_right (join r q) = joined_right r q (find s.slips r) (find s.slips q) refl refl
  step_right (absorb h r) = absorbed_right h r (find s.holds h) (find s.slips r) refl refl
