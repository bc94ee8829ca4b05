-- Subscriptions by their places in the list.
use Rattle.std.proofs.Common.{◌≡◌, ◌⊎◌, ℕ, zero, suc, ◌+◌, ◌<◌, ◌≤◌, ◌==◌, ◌||◌, Bool, true, false, if◌then◌else◌, List, [], ◌∷◌, ◌++◌, length, take, drop, map, Option, Some, None, refl, sym, ap, subst, ◌∙◌, arith, inl, inr, slice_index_or, slice_set}
use Rattle.std.specs.List.{AllZip}
use Rattle.std.specs.Option.{is_some}
use Rattle.std.proofs.lemmas.List.{take_more, take_all, take-set, set-get_or, length-set, get_or-set_same, get_or-set_other, get_or_default, drop_more, take-append-drop, length-take-le}
use Rattle.std.proofs.lemmas.Bool.{cases_eq}
use Rattle.sub_queue.specs.Ends.{Fed}
use Rattle.frame_batch.specs.Batches.{Batched}
use Rattle.broadcast_hub.specs.declared.subscription.Standing.{Standing}
use Rattle.broadcast_hub.specs.Hubs.{Kept, how_many, feed_of, has_live, is_live_as}
use Rattle.broadcast_hub.specs.Sending.{IsAt, StandsAt, Through}

pub by_bool : (P : Bool → Type 0) (b : Bool) → P true → P false → P b
by_bool P true t f = t
by_bool P false t f = f

abbrev one_if : Bool → ℕ
one_if b = if b then 1 else 0

module _ (so : Standing → Bool) where
  pub how_many-append : (xs ys : List Kept) → how_many so (xs ++ ys) ≡ how_many so xs + how_many so ys
  how_many-append [] ys = omega arith
  how_many-append (x ∷ xs) ys = let more = how_many-append xs ys in omega (arith, more)

  pub how_many_more : (i : ℕ) (xs : List Kept) (d : Kept) → i < length xs
      → how_many so (take (i + 1) xs) ≡ how_many so (take i xs) + one_if (so (slice_index_or xs i d).standing)
  how_many_more i xs d there =
      let next = ap (how_many so) (take_more xs i d there) in
      let sum = how_many-append (take i xs) (slice_index_or xs i d ∷ []) in
      omega (arith, next, sum)

  pub how_many_one : (n i : ℕ) (xs : List Kept) (d : Kept) → n ≡ how_many so (take i xs) → i < length xs
      → so (slice_index_or xs i d).standing ≡ true → n + 1 ≡ how_many so (take (i + 1) xs)
  how_many_one n i xs d is there stands =
      let more = how_many_more i xs d there in
      let one : one_if (so (slice_index_or xs i d).standing) ≡ 1 = ap one_if stands in
      omega (arith, is, more, one)

  pub how_many_same : (n i : ℕ) (xs : List Kept) (d : Kept) → n ≡ how_many so (take i xs) → i < length xs
      → so (slice_index_or xs i d).standing ≡ false → n ≡ how_many so (take (i + 1) xs)
  how_many_same n i xs d is there stands =
      let more = how_many_more i xs d there in
      let none : one_if (so (slice_index_or xs i d).standing) ≡ 0 = ap one_if stands in
      omega (arith, is, more, none)

  -- the same where the item at place i is set
  pub how_many_one_set : (n i : ℕ) (xs : List Kept) (y : Kept) → n ≡ how_many so (take i xs) → i < length xs
      → so y.standing ≡ true → n + 1 ≡ how_many so (take (i + 1) (slice_set xs i y))
  how_many_one_set n i xs y is there stands =
      how_many_one n i (slice_set xs i y) y (is ∙ ap (how_many so) (sym (take-set xs i y))) (let same = length-set xs i y in omega (arith, same, there))
      (ap (λ (s : Kept). so s.standing) (get_or-set_same xs i y y there) ∙ stands)

  pub how_many_same_set : (n i : ℕ) (xs : List Kept) (y : Kept) → n ≡ how_many so (take i xs) → i < length xs
      → so y.standing ≡ false → n ≡ how_many so (take (i + 1) (slice_set xs i y))
  how_many_same_set n i xs y is there stands =
      how_many_same n i (slice_set xs i y) y (is ∙ ap (how_many so) (sym (take-set xs i y))) (let same = length-set xs i y in omega (arith, same, there))
      (ap (λ (s : Kept). so s.standing) (get_or-set_same xs i y y there) ∙ stands)

  pub how_many_most : (xs : List Kept) → how_many so xs ≤ length xs
  how_many_most [] = omega arith
  how_many_most (x ∷ xs) =
      let more = how_many_most xs in
      let one : one_if (so x.standing) ≤ 1 = by_bool (λ b. one_if b ≤ 1) (so x.standing) (omega arith) (omega arith) in
      omega (arith, more, one)

pub zip_of : (R : Kept → Kept → Type 0) (i : ℕ) (xs ys : List Kept) → Through R i xs ys → length xs ≤ i → AllZip R xs ys
zip_of R i xs ys t all = zip xs ys t.places (λ k d below. t.done k d (omega (arith, below, all)))
  where
    zip : (as' bs : List Kept) → length bs ≡ length as' → ((k : ℕ) (d : Kept) → k < length as' → R (slice_index_or as' k d) (slice_index_or bs k d)) → AllZip R as' bs
    zip [] [] e f = tt
    zip [] (b ∷ bs) e f = absurd (omega (arith, e))
    zip (a ∷ as') [] e f = absurd (omega (arith, e))
    zip (a ∷ as') (b ∷ bs) e f = (f 0 a (omega arith), zip as' bs (omega (arith, e)) (λ k d below. f (suc k) d (omega (arith, below))))

pub map_of : (f : Kept → Kept) (xs ys : List Kept) → AllZip (λ s t. t ≡ f s) xs ys → ys ≡ map f xs
map_of f [] [] all = refl
map_of f [] (y ∷ ys) all = absurd all
map_of f (x ∷ xs) [] all = absurd all
map_of f (x ∷ xs) (y ∷ ys) all = ap (λ z. z ∷ ys) all.0 ∙ ap (λ zs. f x ∷ zs) (map_of f xs ys all.1)

pub some_not_none : (f : Fed Batched) → Some f ≡ None → ⊥
some_not_none f e = let P : Option (Fed Batched) → Type 0 = λ o. elim o [ Some x ↦ Unit {0} | None ↦ ⊥ ] in subst P e tt

pub feed_of-append : (id : ℕ) (xs ys : List Kept) → feed_of id xs ≡ None → feed_of id (xs ++ ys) ≡ feed_of id ys
feed_of-append id [] ys none = refl
feed_of-append id (x ∷ xs) ys none =
    by_bool (λ b. (if b then Some x.feed else feed_of id xs) ≡ None → (if b then Some x.feed else feed_of id (xs ++ ys)) ≡ feed_of id ys) (x.id == id)
    (λ h. absurd (some_not_none x.feed h)) (λ h. feed_of-append id xs ys h) none

pub feed_of_more : (id i : ℕ) (xs : List Kept) (d : Kept) → feed_of id (take i xs) ≡ None → i < length xs
    → ((slice_index_or xs i d).id == id) ≡ false → feed_of id (take (i + 1) xs) ≡ None
feed_of_more id i xs d none there other =
    let x : Kept = slice_index_or xs i d in
    ap (feed_of id) (take_more xs i d there) ∙ feed_of-append id (take i xs) (x ∷ []) none
    ∙ ap (λ (b : Bool). if b then Some x.feed else None) other

pub has_live-append : (id : ℕ) (xs ys : List Kept) → has_live id (xs ++ ys) ≡ (if has_live id xs then true else has_live id ys)
has_live-append id [] ys = refl
has_live-append id (x ∷ xs) ys =
    by_bool (λ b. (if b then true else has_live id (xs ++ ys)) ≡ (if (if b then true else has_live id xs) then true else has_live id ys)) (is_live_as id x)
    refl (has_live-append id xs ys)

pub has_live_more : (id i : ℕ) (xs : List Kept) (d : Kept) → i < length xs
    → has_live id (take (i + 1) xs) ≡ (if has_live id (take i xs) then true else is_live_as id (slice_index_or xs i d))
has_live_more id i xs d there =
    let x : Kept = slice_index_or xs i d in
    ap (has_live id) (take_more xs i d there) ∙ has_live-append id (take i xs) (x ∷ [])
    ∙ ap (λ (b : Bool). if has_live id (take i xs) then true else b) (by_bool (λ b. (if b then true else false) ≡ b) (is_live_as id x) refl refl)

-- one more of them changed
pub through_step : (R : Kept → Kept → Type 0) (i : ℕ) (old now : List Kept) (y d : Kept) → Through R i old now → i < length old
    → R (slice_index_or now i d) y → Through R (i + 1) old (slice_set now i y)
through_step R i old now y d t there changed =
    let size = t.places in
    let within : i < length now = omega (arith, size, there) in
    record {
      places = length-set now i y ∙ t.places;
      done = λ k e below. elim (cases_eq k i) [
        | inl is ↦
            let P : ℕ → Type 0 = λ j. R (slice_index_or old j e) (slice_index_or (slice_set now i y) j e) in
            let Q : Kept → Type 0 = λ s. R s (slice_index_or (slice_set now i y) i e) in
            let S : Kept → Type 0 = λ s. R (slice_index_or now i d) s in
            subst P (sym is) (subst Q (get_or_default now i d e within ∙ t.rest i e (omega arith)) (subst S (sym (get_or-set_same now i y e within)) changed))
        | inr other ↦
            let S : Kept → Type 0 = λ s. R (slice_index_or old k e) s in
            subst S (sym (get_or-set_other now i k y e other)) (t.done k e (let apart = other in omega (arith, below, apart)))
      ];
      rest = λ k e from. get_or-set_other now i k y e (λ is. absurd (omega (arith, from, is))) ∙ t.rest k e (omega (arith, from));
    }

pub through_begin : (R : Kept → Kept → Type 0) (xs : List Kept) → Through R 0 xs xs
through_begin R xs = record { places = refl; done = λ k d below. absurd (omega (arith, below)); rest = λ k d from. refl }

-- the item at place i of a list that changed up to there
pub through_at : (R : Kept → Kept → Type 0) (i : ℕ) (old now : List Kept) (d : Kept) → Through R i old now → slice_index_or now i d ≡ slice_index_or old i d
through_at R i old now d t = t.rest i d (omega arith)

pub id_other : (m n : ℕ) → (m ≡ n → ⊥) → (m == n) ≡ false
id_other m n other = grind (arith, other)

pub stands_at : (id i : ℕ) (xs : List Kept) (d : Kept) → feed_of id (take i xs) ≡ None → i < length xs → (slice_index_or xs i d).id ≡ id → StandsAt id i xs
stands_at id i xs d none there is = record {
  before = take i xs;
  sub = slice_index_or xs i d;
  behind = drop (i + 1) xs;
  parts = sym (take-append-drop i xs) ∙ ap (λ ys. take i xs ++ ys) (drop_more xs i d there);
  place = length-take-le i xs (omega (arith, there));
  id_is = is;
  none = none;
}

or_is : (a b : Bool) → (a || b) ≡ (if a then true else b)
or_is true b = refl
or_is false b = refl

-- whether one of the first i + 1 is live and has the id
pub did_more : (id i : ℕ) (old now : List Kept) (d : Kept) (did r : Bool) → did ≡ has_live id (take i old) → r ≡ is_live_as id (slice_index_or now i d)
    → slice_index_or now i d ≡ slice_index_or old i d → i < length old → (did || r) ≡ has_live id (take (i + 1) old)
did_more id i old now d did r before is same there =
    ap (λ (b : Bool). b || r) before ∙ ap (λ (b : Bool). has_live id (take i old) || b) (is ∙ ap (is_live_as id) same)
    ∙ or_is (has_live id (take i old)) (is_live_as id (slice_index_or old i d)) ∙ sym (has_live_more id i old d there)

pub feed_at : (id i : ℕ) (ss : List Kept) (at : StandsAt id i ss) → feed_of id ss ≡ Some at.sub.feed
feed_at id i ss at =
    ap (feed_of id) at.parts ∙ feed_of-append id at.before (at.sub ∷ at.behind) at.none
    ∙ ap (λ (b : Bool). if b then Some at.sub.feed else feed_of id at.behind) (id_same at.sub.id id at.id_is)
  where
    id_same : (m n : ℕ) → m ≡ n → (m == n) ≡ true
    id_same m n is = grind (arith, is)

pub at_holds : (id : ℕ) (ss : List Kept) (o : Option ℕ) → IsAt id ss o → is_some o ≡ is_some (feed_of id ss)
at_holds id ss None none = ap (λ (f : Option (Fed Batched)). is_some f) (sym none)
at_holds id ss (Some i) at = ap (λ (f : Option (Fed Batched)). is_some f) (sym (feed_at id i ss at))

pub set_same : (i : ℕ) (xs : List Kept) (y d : Kept) → y ≡ slice_index_or xs i d → slice_set xs i y ≡ xs
set_same i xs y d is = ap (λ (z : Kept). slice_set xs i z) is ∙ set-get_or xs i d
