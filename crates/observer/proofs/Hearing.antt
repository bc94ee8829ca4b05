-- Those before a place heard one note more.
use Rattle.std.proofs.Common.{◌≡◌, ℕ, zero, suc, ◌+◌, ◌<◌, List, [], ◌∷◌, ◌++◌, length, get_or, set, take, drop, map, sym, refl, ap, ◌∙◌, arith, add-one, Result, Ok, Err, OnOk, OnErr, true, false}
use Rattle.std.specs.Result.{is_err}
use Rattle.std.proofs.Math.Seq.{map-set_same}
use Rattle.std.proofs.lemmas.List.{map-set, get_or-map, length-map}
use Rattle.observer.specs.Notes.{Note, SomeHeard, each_heard}

abbrev pub heard_before : Note → ℕ → List (List Note) → List (List Note)
heard_before n i old = each_heard n (take i old) ++ drop i old

same_at : (n : Note) (old : List (List Note)) (i : ℕ) → get_or (heard_before n i old) i [] ≡ get_or old i []
same_at n [] zero = refl
same_at n [] (suc i) = refl
same_at n (x ∷ old) zero = refl
same_at n (x ∷ old) (suc i) = same_at n old i

as_many : (n : Note) (old : List (List Note)) (i : ℕ) → length (heard_before n i old) ≡ length old
as_many n [] zero = refl
as_many n [] (suc i) = refl
as_many n (x ∷ old) zero = refl
as_many n (x ∷ old) (suc i) = ap suc (as_many n old i)

next_heard : (n : Note) (old : List (List Note)) (i : ℕ) → i < length old → set (heard_before n i old) i (get_or old i [] ++ n ∷ []) ≡ heard_before n (suc i) old
next_heard n [] i within = absurd (omega arith)
next_heard n (x ∷ old) zero within = refl
next_heard n (x ∷ old) (suc i) within = ap (λ rest. (x ++ n ∷ []) ∷ rest) (next_heard n old i (omega arith))

-- one more was told
pub told_one : {X : Type 0} (f : X → List Note) (n : Note) (old : List (List Note)) (xs : List X) (i : ℕ) (x y : X)
    → map f xs ≡ heard_before n i old → i < length xs → f y ≡ f (get_or xs i x) ++ n ∷ [] → map f (set xs i y) ≡ heard_before n (i + 1) old
told_one f n old xs i x y now within new =
    let same : f (get_or xs i x) ≡ get_or old i [] = sym (get_or-map f xs i x [] within) ∙ ap (λ notes. get_or notes i []) now ∙ same_at n old i in
    let below : i < length old = omega (arith, length-map xs f, ap length now, as_many n old i) in
    map-set f xs i y ∙ ap (λ notes. set notes i (f y)) now ∙ ap (λ notes. set (heard_before n i old) i notes) (new ∙ ap (λ notes. notes ++ n ∷ []) same)
    ∙ next_heard n old i below ∙ ap (λ (k : ℕ). heard_before n k old) (sym (add-one i))

-- one was told in vain
pub told_none : {X : Type 0} (f : X → List Note) (n : Note) (old : List (List Note)) (xs : List X) (i : ℕ) (x y : X)
    → map f xs ≡ heard_before n i old → i < length xs → f y ≡ f (get_or xs i x) → SomeHeard n old (map f (set xs i y))
told_none f n old xs i x y now within new =
    (i, omega (arith, length-map xs f, ap length now, as_many n old i), map-set_same f xs i y x new ∙ now)

pub at_ok : {A E : Type 0} (r : Result A E) (P : Type 0) → false ≡ is_err r → OnOk r P → P
at_ok (Ok x) P e p = p
at_ok (Err x) P e p = cc

pub at_err : {A E : Type 0} (r : Result A E) (P : Type 0) → true ≡ is_err r → OnErr r P → P
at_err (Ok x) P e p = cc
at_err (Err x) P e p = p
