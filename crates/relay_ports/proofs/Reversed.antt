-- A list in reverse.
use Rattle.std.proofs.Common.{◌≡◌, Bool, true, false, List, [], ◌∷◌, ◌++◌, refl, ap, sym, ◌∙◌, ◌||◌}
use Rattle.std.specs.Prelude.{map, reverse}
use Rattle.std.specs.Option.{is_some}
use Rattle.std.specs.List.{list_any}
use Rattle.std.specs.Map.{lookup, keys_of}
use Rattle.std.proofs.lemmas.List.{map-append, reverse-append}
use Rattle.std.proofs.lemmas.List.Folds.{list_any-append}
use Rattle.std.proofs.lemmas.Map.Made.{is_some-lookup}

pub map-reverse : {X Y : Type 0} (f : X → Y) (xs : List X) → map f (reverse xs) ≡ reverse (map f xs)
map-reverse f [] = refl
map-reverse f (x ∷ xs) = ap (λ v. map f v) (reverse-append (x ∷ []) xs) ∙ map-append f (reverse xs) (x ∷ []) ∙ ap (λ v. v ++ f x ∷ []) (map-reverse f xs)
    ∙ sym (reverse-append (f x ∷ []) (map f xs))

or_back : (a b : Bool) → (a || (b || false)) ≡ (b || a)
or_back true true = refl
or_back true false = refl
or_back false true = refl
or_back false false = refl

list_any-reverse : {X : Type 0} (p : X → Bool) (xs : List X) → list_any p (reverse xs) ≡ list_any p xs
list_any-reverse p [] = refl
list_any-reverse p (x ∷ xs) = ap (λ v. list_any p v) (reverse-append (x ∷ []) xs) ∙ list_any-append p (reverse xs) (x ∷ [])
    ∙ or_back (list_any p (reverse xs)) (p x) ∙ ap (λ b. p x || b) (list_any-reverse p xs)

-- something is found from the back where something is there
pub found_back : {K X : Type 0} (q : K → Bool) (es : List (K × X)) → is_some (lookup q (reverse es)) ≡ list_any q (keys_of es)
found_back q es = is_some-lookup q (reverse es) ∙ ap (λ v. list_any q v) (map-reverse (λ e. e.0) es) ∙ list_any-reverse q (keys_of es)
