-- A feed that met its tap, and one that leaves the hub.
use Rattle.std.proofs.Common.{◌≡◌, ℕ, zero, suc, ◌+◌, ◌<◌, ◌≤◌, ◌==◌, Bool, true, false, if◌then◌else◌, List, [], ◌∷◌, ◌++◌, length, map, take, drop, Option, Some, None, IfSome, refl, sym, ap, subst, ◌∙◌, arith, slice_index_or, slice_set}
use Rattle.std.proofs.lemmas.List.{set_at, take_at, drop_at, get_or_at, map-append}
use Rattle.std.specs.Option.{is_some}
use Rattle.sub_queue.specs.declared.items.End.{End}
use Rattle.sub_queue.specs.Ends.{Fed, Tapped, end_of}
use Rattle.frame_batch.specs.Batches.{Batched}
use Rattle.broadcast_hub.specs.Hubs.{Kept, feed_of, is_here, here_in, IdsRise, AreKept}
use Rattle.broadcast_hub.specs.Leaving.{met, without, kept_after, IsTapOf, Meets}
use Rattle.broadcast_hub.specs.Sending.{StandsAt}
use Rattle.broadcast_hub.proofs.Kept.{Stays, kept_on, zip_same}
use Rattle.broadcast_hub.proofs.Places.{by_bool, feed_at, id_other, how_many-append, some_not_none}

abbrev one_if : Bool → ℕ
one_if b = if b then 1 else 0

pub at_feed : (id i : ℕ) (ss : List Kept) (tap : Tapped Batched) (at : StandsAt id i ss) → IsTapOf tap (feed_of id ss) → at.sub.feed.line ≡ tap.line
at_feed id i ss tap at h = let Q : Option (Fed Batched) → Type 0 = λ o. IsTapOf tap o in subst Q (feed_at id i ss at) h

pub not_kept : (o : Option (Fed Batched)) (tap : Tapped Batched) → o ≡ None → IsTapOf tap o → ⊥
not_kept o tap none h = let Q : Option (Fed Batched) → Type 0 = λ x. IsTapOf tap x in subst Q none h

pub at_place : (id i : ℕ) (ss : List Kept) (d : Kept) (at : StandsAt id i ss) → slice_index_or ss i d ≡ at.sub
at_place id i ss d at = ap (λ (xs : List Kept). slice_index_or xs i d) at.parts ∙ get_or_at at.before at.sub at.behind d i at.place

unmet : (id n : ℕ) (xs : List Kept) → feed_of id xs ≡ None → map (met id n) xs ≡ xs
unmet id n [] none = refl
unmet id n (x ∷ xs) none =
    by_bool (λ b. (if b then Some x.feed else feed_of id xs) ≡ None → (if b then record x { feed = record x.feed { known = n } } else x) ∷ map (met id n) xs ≡ x ∷ xs)
    (x.id == id) (λ h. absurd (some_not_none x.feed h)) (λ h. ap (λ ys. x ∷ ys) (unmet id n xs h)) none

kept_without : (id : ℕ) (xs : List Kept) (s : Kept) (ys : List Kept) → feed_of id xs ≡ None → s.id ≡ id → without id (xs ++ s ∷ ys) ≡ xs ++ ys
kept_without id [] s ys none is = ap (λ (b : Bool). if b then ys else s ∷ without id ys) (id_same s.id id is)
  where
    id_same : (m n : ℕ) → m ≡ n → (m == n) ≡ true
    id_same m n is = grind (arith, is)
kept_without id (x ∷ xs) s ys none is =
    by_bool (λ b. (if b then Some x.feed else feed_of id xs) ≡ None → (if b then xs ++ s ∷ ys else x ∷ without id (xs ++ s ∷ ys)) ≡ x ∷ (xs ++ ys))
    (x.id == id) (λ h. absurd (some_not_none x.feed h)) (λ h. ap (λ zs. x ∷ zs) (kept_without id xs s ys h is)) none

none_later : (id low next : ℕ) (xs : List Kept) → id < low → IdsRise low next xs → feed_of id xs ≡ None
none_later id low next [] below r = refl
none_later id low next (x ∷ xs) below r =
    let first = r.0 in
    ap (λ (b : Bool). if b then Some x.feed else feed_of id xs) (id_other x.id id (λ is. omega (arith, first, below, is)))
    ∙ none_later id (suc x.id) next xs (omega (arith, first, below)) r.1

rise_behind : (low next : ℕ) (xs ys : List Kept) (s : Kept) → IdsRise low next (xs ++ s ∷ ys) → IdsRise (suc s.id) next ys
rise_behind low next [] ys s r = r.1
rise_behind low next (x ∷ xs) ys s r = rise_behind (suc x.id) next xs ys s r.1

rise_low : (low high next : ℕ) (xs : List Kept) → low ≤ high → IdsRise high next xs → IdsRise low next xs
rise_low low high next [] le r = omega (arith, le, r)
rise_low low high next (x ∷ xs) le r = (let first = r.0 in omega (arith, le, first), r.1)

rise_without : (low next : ℕ) (xs ys : List Kept) (s : Kept) → IdsRise low next (xs ++ s ∷ ys) → IdsRise low next (xs ++ ys)
rise_without low next [] ys s r = rise_low low (suc s.id) next ys (let first = r.0 in omega (arith, first)) r.1
rise_without low next (x ∷ xs) ys s r = (r.0, rise_without (suc x.id) next xs ys s r.1)

-- one feed met its tap
pub met_at : (id i n next : ℕ) (ss : List Kept) (y : Kept) (at : StandsAt id i ss) → y ≡ record at.sub { feed = record at.sub.feed { known = n } } → IdsRise 0 next ss
    → slice_set ss i y ≡ map (met id n) ss
met_at id i n next ss y at is rise =
    let P : List Kept → Type 0 = λ xs. IdsRise 0 next xs in
    let named = at.id_is in
    let others = none_later id (suc at.sub.id) next at.behind (omega (arith, named)) (rise_behind 0 next at.before at.behind at.sub (subst P at.parts rise)) in
    ap (λ (xs : List Kept). slice_set xs i y) at.parts ∙ set_at at.before at.sub at.behind y i at.place
    ∙ ap (λ (z : Kept). at.before ++ z ∷ at.behind) (is ∙ sym (own at.sub named))
    ∙ ap (λ (xs : List Kept). xs ++ met id n at.sub ∷ at.behind) (sym (unmet id n at.before at.none))
    ∙ ap (λ (xs : List Kept). map (met id n) at.before ++ met id n at.sub ∷ xs) (sym (unmet id n at.behind others))
    ∙ sym (map-append (met id n) at.before (at.sub ∷ at.behind)) ∙ ap (map (met id n)) (sym at.parts)
  where
    own : (s : Kept) → s.id ≡ id → met id n s ≡ record s { feed = record s.feed { known = n } }
    own s e = ap (λ (b : Bool). if b then record s { feed = record s.feed { known = n } } else s) (same s.id id e)
      where
        same : (m k : ℕ) → m ≡ k → (m == k) ≡ true
        same m k e = grind (arith, e)

-- it left
pub gone_at : (id i : ℕ) (ss now : List Kept) (y : Kept) (at : StandsAt id i ss) → now ≡ take i (slice_set ss i y) ++ drop (i + 1) (slice_set ss i y)
    → now ≡ without id ss
gone_at id i ss now y at is =
    let put = ap (λ (xs : List Kept). slice_set xs i y) at.parts ∙ set_at at.before at.sub at.behind y i at.place in
    is ∙ ap (λ (xs : List Kept). take i xs ++ drop (i + 1) xs) put
    ∙ ap (λ (xs : List Kept). xs ++ drop (i + 1) (at.before ++ y ∷ at.behind)) (take_at at.before (y ∷ at.behind) i at.place)
    ∙ ap (λ (xs : List Kept). at.before ++ xs) (behind_it at.before at.behind i at.place)
    ∙ sym (kept_without id at.before at.sub at.behind at.none at.id_is) ∙ ap (without id) (sym at.parts)
  where
    behind_it : (xs ys : List Kept) (n : ℕ) → length xs ≡ n → drop (n + 1) (xs ++ y ∷ ys) ≡ ys
    behind_it xs ys n size =
        ap (λ (k : ℕ). drop (k + 1) (xs ++ y ∷ ys)) (sym size) ∙ next xs
      where
        next : (zs : List Kept) → drop (length zs + 1) (zs ++ y ∷ ys) ≡ ys
        next [] = refl
        next (z ∷ zs) = ap (λ (k : ℕ). drop k (z ∷ (zs ++ y ∷ ys))) (let e : suc (length zs) + 1 ≡ suc (length zs + 1) = omega arith in e) ∙ next zs

pub gone_kept : (id i next : ℕ) (ss : List Kept) (at : StandsAt id i ss) → AreKept next ss → AreKept next (without id ss)
gone_kept id i next ss at k =
    let P : List Kept → Type 0 = λ xs. AreKept next xs in
    let Q : List Kept → Type 0 = λ xs. AreKept next (without id xs) in
    let whole = subst P at.parts k in
    let fewer = how_many-append is_here at.before at.behind in
    let all = how_many-append is_here at.before (at.sub ∷ at.behind) in
    let most = whole.1 in
    subst Q (sym at.parts) (subst P (sym (kept_without id at.before at.sub at.behind at.none at.id_is))
    (rise_without 0 next at.before at.behind at.sub whole.0, omega (arith, fewer, all, most)))

pub met_kept : (id n next : ℕ) (ss : List Kept) → AreKept next ss → AreKept next (map (met id n) ss)
met_kept id n next ss k = kept_on next ss (map (met id n) ss) (zip_same (met id n) ss (λ s.
    by_bool (λ b. Stays s (if b then record s { feed = record s.feed { known = n } } else s)) (s.id == id) (refl, omega arith) (refl, omega arith))) k

pub meets_if : (id i left : ℕ) (ss : List Kept) (old new : Tapped Batched) (at : StandsAt id i ss) → Meets at.sub.feed old new left
    → IfSome (feed_of id ss) (λ feed. Meets feed old new left)
meets_if id i left ss old new at m = let Q : Option (Fed Batched) → Type 0 = λ o. IfSome o (λ feed. Meets feed old new left) in subst Q (sym (feed_at id i ss at)) m

pub stays_in : (id n : ℕ) (o : Option End) (ss : List Kept) → false ≡ is_some o → kept_after id n o ss ≡ map (met id n) ss
stays_in id n None ss is = refl
stays_in id n (Some e) ss is = let Q : Bool → Type 0 = λ b. elim b [ true ↦ ⊥ | false ↦ Unit {0} ] in absurd (subst Q is tt)

pub goes_out : (id n : ℕ) (o : Option End) (ss : List Kept) → true ≡ is_some o → kept_after id n o ss ≡ without id ss
goes_out id n (Some e) ss is = refl
goes_out id n None ss is = let Q : Bool → Type 0 = λ b. elim b [ true ↦ Unit {0} | false ↦ ⊥ ] in absurd (subst Q is tt)

-- what the hub keeps of a subscription that met its tap
pub meets_as : (n : ℕ) (was sub now : Kept) → was ≡ sub → now ≡ record was { feed = now.feed } → now.feed ≡ record was.feed { known = n }
    → now ≡ record sub { feed = record sub.feed { known = n } }
meets_as n was sub now is stays feed =
    stays ∙ (λ i. record was { feed = feed i }) ∙ ap (λ (s : Kept). record s { feed = record s.feed { known = n } }) is
