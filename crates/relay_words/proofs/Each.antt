-- Lists that are read item by item.
use Rattle.std.proofs.Common.{◌≡◌, ℕ, suc, ◌+◌, ◌<◌, false, List, [], ◌∷◌, ◌++◌, Option, Some, None, length, take, drop, get_or, refl, sym, ap, ◌∙◌, append-nil}
use Rattle.std.specs.Prelude.{◌==◌, option_map}
use Rattle.std.specs.List.{slice_split, filter_map, cons_option}
use Rattle.std.proofs.lemmas.List.{take_more}
use Rattle.std.proofs.lemmas.List.Elements.{filter_map-append}
use Rattle.std.proofs.Math.Seq.{drop-cons}
use Rattle.relay_words.specs.Parts.{with}
use Rattle.relay_words.specs.Hex.{hex_bytes, of_each, hex_list}

-- an item of which `f` makes nothing
pub none_at : {A B : Type 0} (f : A → Option B) (g : List B → List B) (xs : List A) (i : ℕ) (x : A) → i < length xs → x ≡ get_or xs i x → None ≡ f x
    → option_map g (of_each f (drop i xs)) ≡ of_each f xs → None ≡ of_each f xs
none_at f g xs i x inside is none kept =
    let e : drop i xs ≡ x ∷ drop (suc i) xs = drop-cons xs i x inside ∙ ap (λ y. y ∷ drop (suc i) xs) (sym is) in
    ap (λ o. option_map g (with o (λ y. option_map (λ ys. y ∷ ys) (of_each f (drop (suc i) xs))))) none ∙ ap (λ l. option_map g (of_each f l)) (sym e) ∙ kept

-- a list that isn't empty
pub list_there : (w : List ℕ) → (length w == 0) ≡ false → hex_list w ≡ of_each hex_bytes (slice_split (λ b. b == 124) w)
list_there [] some = absurd (cc)
list_there (x ∷ w) some = refl

taken_more : {A B : Type 0} (h : A → Option B) (xs : List A) (i : ℕ) (x : A) → i < length xs → x ≡ get_or xs i x → filter_map h (take (i + 1) xs) ≡ filter_map h (take i xs) ++ cons_option (h x) []
taken_more h xs i x inside is =
    let more : take (i + 1) xs ≡ take i xs ++ x ∷ [] = take_more xs i x inside ∙ ap (λ y. take i xs ++ y ∷ []) (sym is) in
    ap (λ l. filter_map h l) more ∙ filter_map-append h (take i xs) (x ∷ [])

-- what `h` makes of items, one more at a time
pub more_made : {A B : Type 0} (h : A → Option B) (xs : List A) (i : ℕ) (x : A) (y : B) (ys zs : List B) → i < length xs → x ≡ get_or xs i x → h x ≡ Some y
    → ys ≡ filter_map h (take i xs) → zs ≡ ys ++ y ∷ [] → zs ≡ filter_map h (take (i + 1) xs)
more_made h xs i x y ys zs inside is made kept pushed =
    pushed ∙ ap (λ l. l ++ y ∷ []) kept ∙ ap (λ o. filter_map h (take i xs) ++ cons_option o []) (sym made) ∙ sym (taken_more h xs i x inside is)

pub none_made : {A B : Type 0} (h : A → Option B) (xs : List A) (i : ℕ) (x : A) (ys zs : List B) → i < length xs → x ≡ get_or xs i x → h x ≡ None
    → ys ≡ filter_map h (take i xs) → zs ≡ ys → zs ≡ filter_map h (take (i + 1) xs)
none_made h xs i x ys zs inside is none kept same =
    same ∙ kept ∙ sym (append-nil (filter_map h (take i xs))) ∙ ap (λ o. filter_map h (take i xs) ++ cons_option o []) (sym none) ∙ sym (taken_more h xs i x inside is)
