-- The place where a test passes first, and what becomes of the list there.
use Rattle.std.proofs.Common.{◌≡◌, ℕ, suc, ◌+◌, ◌<◌, ◌≤◌, List, [], ◌∷◌, Bool, true, false, not, Option, Some, None, refl, ap, sym, ◌∙◌, length, cond, nat_lt, get_or, arith}
use Rattle.std.specs.Prelude.{remove, insert, position, find, option_map, Contains}
use Rattle.std.specs.List.{position_or_len}
use Rattle.std.specs.Map.{lookup, remove_entry}
use Rattle.std.specs.Set.{remove_key}
use Rattle.std.specs.Str.{bytes_eq}
use Rattle.std.proofs.lemmas.List.Sums.{fails_before_first}
use Rattle.std.proofs.lemmas.List.Quantifiers.{position-Some}
use Rattle.std.proofs.lemmas.Slice.Eq.{bytes_eq-Decides}

found : (n l i : ℕ) (b : Bool) → b ≡ nat_lt n l → cond b (Some n) None ≡ Some i → (n < l) × (n ≡ i)
found n l i true is e = (grind (arith, is), grind (arith, e))
found n l i false is e = absurd (cc)

missed : (n l : ℕ) (b : Bool) → b ≡ nat_lt n l → cond b (Some n) None ≡ None → l ≤ n
missed n l true is e = absurd (cc)
missed n l false is e = grind (arith, is)

-- a place that was found is inside, and the first
pub first_place : {X : Type 0} (p : X → Bool) (xs : List X) (i : ℕ) → position p xs ≡ Some i → (position_or_len p xs < length xs) × (position_or_len p xs ≡ i)
first_place p xs i e = found (position_or_len p xs) (length xs) i (nat_lt (position_or_len p xs) (length xs)) refl e

-- where no place was found there is none
pub no_place : {X : Type 0} (p : X → Bool) (xs : List X) → position p xs ≡ None → length xs ≤ position_or_len p xs
no_place p xs e = missed (position_or_len p xs) (length xs) (nat_lt (position_or_len p xs) (length xs)) refl e

removed_step : {X : Type 0} (x : X) (xs w : List X) (n : ℕ) (b : Bool) → cond (not b) (1 + n) 0 < length (x ∷ xs) → (n < length xs → remove xs n ≡ w)
    → remove (x ∷ xs) (cond (not b) (1 + n) 0) ≡ cond b xs (x ∷ w)
removed_step x xs w n true inside more = refl
removed_step x xs w n false inside more =
    let next : 1 + n ≡ suc n = omega arith in
    ap (λ k. remove (x ∷ xs) k) next ∙ ap (λ v. x ∷ v) (more (grind arith))

removed_first : {X : Type 0} (p : X → Bool) (xs : List X) → position_or_len p xs < length xs → remove xs (position_or_len p xs) ≡ remove_key p xs
removed_first p [] inside = refl
removed_first p (x ∷ xs) inside = removed_step x xs (remove_key p xs) (position_or_len p xs) (p x) inside (removed_first p xs)

-- what is removed at the first place
pub removed_at : {X : Type 0} (p : X → Bool) (xs : List X) (i : ℕ) → position p xs ≡ Some i → remove xs i ≡ remove_key p xs
removed_at p xs i e = let at = first_place p xs i e in ap (λ k. remove xs k) (sym at.1) ∙ removed_first p xs at.0

kept_step : {X : Type 0} (x : X) (xs w : List X) (n : ℕ) (b : Bool) → length (x ∷ xs) ≤ cond (not b) (1 + n) 0 → (length xs ≤ n → w ≡ xs) → cond b xs (x ∷ w) ≡ x ∷ xs
kept_step x xs w n true past more = absurd (grind arith)
kept_step x xs w n false past more = ap (λ v. x ∷ v) (more (grind arith))

kept_all : {X : Type 0} (p : X → Bool) (xs : List X) → length xs ≤ position_or_len p xs → remove_key p xs ≡ xs
kept_all p [] past = refl
kept_all p (x ∷ xs) past = kept_step x xs (remove_key p xs) (position_or_len p xs) (p x) past (kept_all p xs)

-- without a place nothing is removed
pub removed_nowhere : {X : Type 0} (p : X → Bool) (xs : List X) → position p xs ≡ None → remove_key p xs ≡ xs
removed_nowhere p xs e = kept_all p xs (no_place p xs e)

pub entry_removed : {K X : Type 0} (q : K → Bool) (es : List (K × X)) → remove_key (λ e. q e.0) es ≡ remove_entry q es
entry_removed q [] = refl
entry_removed q (e ∷ es) = ap (λ v. cond (q e.0) es (e ∷ v)) (entry_removed q es)

-- the entry that is removed at the first place
pub entry_removed_at : {K X : Type 0} (q : K → Bool) (es : List (K × X)) (i : ℕ) → position (λ e. q e.0) es ≡ Some i → remove es i ≡ remove_entry q es
entry_removed_at q es i e = removed_at (λ e. q e.0) es i e ∙ entry_removed q es

-- the entry behind a new one is removed
pub entry_replaced_at : {K X : Type 0} (q : K → Bool) (es : List (K × X)) (y : K × X) (i : ℕ) → position (λ e. q e.0) es ≡ Some i → remove (insert es 0 y) (i + 1) ≡ y ∷ remove_entry q es
entry_replaced_at q es y i e =
    let next : i + 1 ≡ suc i = omega arith in
    ap (λ k. remove (y ∷ es) k) next ∙ ap (λ v. y ∷ v) (entry_removed_at q es i e)

-- without a place no entry is removed
pub entry_removed_nowhere : {K X : Type 0} (q : K → Bool) (es : List (K × X)) → position (λ e. q e.0) es ≡ None → remove_entry q es ≡ es
entry_removed_nowhere q es e = sym (entry_removed q es) ∙ removed_nowhere (λ e. q e.0) es e

looked_step : {K X : Type 0} (e : K × X) (es : List (K × X)) (d : K × X) (w : Option X) (n : ℕ) (b : Bool) → cond (not b) (1 + n) 0 < length (e ∷ es)
    → (n < length es → w ≡ Some (get_or es n d).1) → cond b (Some e.1) w ≡ Some (get_or (e ∷ es) (cond (not b) (1 + n) 0) d).1
looked_step e es d w n true inside more = refl
looked_step e es d w n false inside more =
    let next : 1 + n ≡ suc n = omega arith in
    more (grind arith) ∙ ap (λ k. Some (get_or (e ∷ es) k d).1) (sym next)

looked_first : {K X : Type 0} (q : K → Bool) (es : List (K × X)) (d : K × X) → position_or_len (λ e. q e.0) es < length es → lookup q es ≡ Some (get_or es (position_or_len (λ e. q e.0) es) d).1
looked_first q [] d inside = absurd (grind arith)
looked_first q (e ∷ es) d inside = looked_step e es d (lookup q es) (position_or_len (λ x. q x.0) es) (q e.0) inside (looked_first q es d)

-- what is found under a name stands at the first place
pub entry_at : {K X : Type 0} (q : K → Bool) (es : List (K × X)) (i : ℕ) (x : K × X) → position (λ e. q e.0) es ≡ Some i → x ≡ get_or es i x → lookup q es ≡ Some x.1
entry_at q es i x e is =
    let at = first_place (λ y. q y.0) es i e in
    looked_first q es x at.0 ∙ ap (λ k. Some (get_or es k x).1) at.1 ∙ ap (λ y. Some y.1) (sym is)

looked_past_step : {K X : Type 0} (e : K × X) (es : List (K × X)) (w : Option X) (n : ℕ) (b : Bool) → length (e ∷ es) ≤ cond (not b) (1 + n) 0
    → (length es ≤ n → w ≡ None) → cond b (Some e.1) w ≡ None
looked_past_step e es w n true past more = absurd (grind arith)
looked_past_step e es w n false past more = more (grind arith)

looked_past : {K X : Type 0} (q : K → Bool) (es : List (K × X)) → length es ≤ position_or_len (λ e. q e.0) es → lookup q es ≡ None
looked_past q [] past = refl
looked_past q (e ∷ es) past = looked_past_step e es (lookup q es) (position_or_len (λ x. q x.0) es) (q e.0) past (looked_past q es)

-- without a place nothing is found under a name
pub entry_nowhere : {K X : Type 0} (q : K → Bool) (es : List (K × X)) → position (λ e. q e.0) es ≡ None → lookup q es ≡ None
entry_nowhere q es e = looked_past q es (no_place (λ x. q x.0) es e)

-- what is found under a name is the first entry's
pub lookup-find : {K X : Type 0} (q : K → Bool) (es : List (K × X)) → lookup q es ≡ option_map (λ e. e.1) (find (λ e. q e.0) es)
lookup-find q [] = refl
lookup-find {K} {X} q (e ∷ es) = lookup_step e (lookup q es) (find (λ x. q x.0) es) (q e.0) (lookup-find q es)
  where
    lookup_step : (e : K × X) (w : Option X) (v : Option (K × X)) (b : Bool) → w ≡ option_map (λ x. x.1) v → cond b (Some e.1) w ≡ option_map (λ x. x.1) (cond b (Some e) v)
    lookup_step e w v true is = refl
    lookup_step e w v false is = is

-- a name that is there has a place
pub name_found : (names : List (List ℕ)) (name : List ℕ) → Contains names name → position (bytes_eq name) names ≡ None → ⊥
name_found names name there e =
    let past = no_place (bytes_eq name) names e in
    let before : there.0 < position_or_len (bytes_eq name) names = omega (arith, there.1, past) in
    let fails = fails_before_first (bytes_eq name) names there.0 name before in
    let passes = (bytes_eq-Decides name name).1 refl in
    absurd (cc (fails, passes, there.2))

-- at the place of a name stands this name
pub name_at : (names : List (List ℕ)) (name noted : List ℕ) (i : ℕ) → position (bytes_eq name) names ≡ Some i → noted ≡ get_or names i noted → noted ≡ name
name_at names name noted i e is = is ∙ sym ((bytes_eq-Decides name (get_or names i noted)).0 (position-Some (bytes_eq name) names i noted e).1)
