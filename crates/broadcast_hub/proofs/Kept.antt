-- What a hub keeps of its subscriptions whatever changes.
use Rattle.std.proofs.Common.{◌≡◌, ◌⊎◌, ℕ, zero, suc, ◌+◌, ◌<◌, ◌≤◌, ◌==◌, ◌&&◌, Bool, true, false, if◌then◌else◌, List, [], ◌∷◌, ◌++◌, length, map, take, drop, refl, sym, ap, subst, ◌∙◌, arith, inl, inr}
use Rattle.std.specs.List.{AllZip}
use Rattle.std.proofs.lemmas.List.{length-map, take_at}
use Rattle.sub_queue.specs.declared.items.End.{End}
use Rattle.broadcast_hub.specs.declared.subscription.Standing.{Standing}
use Rattle.broadcast_hub.specs.declared.subscription.Standing.TheVariants.{Live, Leaving, Gone}
use Rattle.broadcast_hub.specs.Hubs.{Kept, is_live, is_here, is_live_as, here_in, how_many, most_here, has_live, IdsRise, AreKept}
use Rattle.broadcast_hub.specs.Leaving.{left, left_as, Flushes, FlushesAs}
use Rattle.broadcast_hub.specs.Publishing.{Looks, LooksAs}
use Rattle.broadcast_hub.proofs.Places.{by_bool, how_many-append}

abbrev one_if : Bool → ℕ
one_if b = if b then 1 else 0

-- the id stays, and who is gone isn't here again
abbrev pub Stays : Kept → Kept → Type 0
Stays s t = (t.id ≡ s.id) × (one_if (is_here t.standing) ≤ one_if (is_here s.standing))

rise_on : (low next : ℕ) (xs ys : List Kept) → AllZip Stays xs ys → IdsRise low next xs → IdsRise low next ys
rise_on low next [] [] all r = r
rise_on low next [] (y ∷ ys) all r = absurd all
rise_on low next (x ∷ xs) [] all r = absurd all
rise_on low next (x ∷ xs) (y ∷ ys) all r =
    let P : ℕ → Type 0 = λ n. (low ≤ n) × IdsRise (suc n) next xs in
    let s = subst P (sym all.0.0) r in
    (s.0, rise_on (suc y.id) next xs ys all.1 s.1)

here_on : (xs ys : List Kept) → AllZip Stays xs ys → here_in ys ≤ here_in xs
here_on [] [] all = omega arith
here_on [] (y ∷ ys) all = absurd all
here_on (x ∷ xs) [] all = absurd all
here_on (x ∷ xs) (y ∷ ys) all = let one = all.0.1 in let more = here_on xs ys all.1 in omega (arith, one, more)

pub kept_on : (next : ℕ) (xs ys : List Kept) → AllZip Stays xs ys → AreKept next xs → AreKept next ys
kept_on next xs ys all k = let fewer = here_on xs ys all in let most = k.1 in (rise_on 0 next xs ys all k.0, omega (arith, fewer, most))

pub zip_map : (R S : Kept → Kept → Type 0) (xs ys : List Kept) → ((s t : Kept) → R s t → S s t) → AllZip R xs ys → AllZip S xs ys
zip_map R S [] [] f all = tt
zip_map R S [] (y ∷ ys) f all = absurd all
zip_map R S (x ∷ xs) [] f all = absurd all
zip_map R S (x ∷ xs) (y ∷ ys) f all = (f x y all.0, zip_map R S xs ys f all.1)

pub zip_same : (f : Kept → Kept) (xs : List Kept) → ((s : Kept) → Stays s (f s)) → AllZip Stays xs (map f xs)
zip_same f [] each = tt
zip_same f (x ∷ xs) each = (each x, zip_same f xs each)

stays_if : (b : Bool) (s : Kept) (stop : ℕ) (end : End) → (b ≡ true → is_live s.standing ≡ true) → Stays s (if b then record s { standing = Leaving stop end } else s)
stays_if false s stop end live = (refl, omega arith)
stays_if true s stop end live = (refl, here s.standing (live refl))
  where
    here : (x : Standing) → is_live x ≡ true → 1 ≤ one_if (is_here x)
    here Live is = omega arith
    here (Leaving n e) is = omega arith
    here (Gone n e) is = let P : Bool → Type 0 = λ b. elim b [ true ↦ ⊥ | false ↦ Unit {0} ] in absurd (subst P is tt)

pub left_kept : (next stop : ℕ) (end : End) (xs ys : List Kept) → ys ≡ map (left stop end) xs → AreKept next xs → AreKept next ys
left_kept next stop end xs ys is k =
    let P : List Kept → Type 0 = λ zs. AreKept next zs in
    subst P (sym is) (kept_on next xs (map (left stop end) xs) (zip_same (left stop end) xs (λ s. stays_if (is_live s.standing) s stop end (λ e. e))) k)

as_live : (a b : Bool) → (a && b) ≡ true → a ≡ true
as_live true b is = refl
as_live false b is = is

pub left_as_kept : (next id stop : ℕ) (end : End) (xs ys : List Kept) → ys ≡ map (left_as id stop end) xs → AreKept next xs → AreKept next ys
left_as_kept next id stop end xs ys is k =
    let P : List Kept → Type 0 = λ zs. AreKept next zs in
    subst P (sym is) (kept_on next xs (map (left_as id stop end) xs)
    (zip_same (left_as id stop end) xs (λ s. stays_if (is_live_as id s) s stop end (as_live (is_live s.standing) (s.id == id)))) k)

pub same_stays : (s t : Kept) → t ≡ s → Stays s t
same_stays s t is = let P : Kept → Type 0 = λ x. Stays s x in subst P (sym is) (refl, omega arith)

flush_stays : (s t : Kept) → Flushes s t → Stays s t
flush_stays s t f = go s.standing refl f
  where
    go : (x : Standing) → s.standing ≡ x → FlushesAs x s t → Stays s t
    go Live is h = same_stays s t h
    go (Gone n e) is h = same_stays s t h
    go (Leaving n e) is (inl h) = (ap (λ (z : Kept). z.id) h.0, (let gone = ap (λ (z : Kept). one_if (is_here z.standing)) h.0 in omega (arith, gone)))
    go (Leaving n e) is (inr h) = (ap (λ (z : Kept). z.id) h.0, (let same = ap (λ (z : Kept). one_if (is_here z.standing)) h.0 in omega (arith, same)))

pub flushed_kept : (next : ℕ) (xs ys : List Kept) → AllZip Flushes xs ys → AreKept next xs → AreKept next ys
flushed_kept next xs ys all k = kept_on next xs ys (zip_map Flushes Stays xs ys flush_stays all) k

look_stays : (s t : Kept) → Looks s t → Stays s t
look_stays s t l = go s.standing refl l
  where
    go : (x : Standing) → s.standing ≡ x → LooksAs x s t → Stays s t
    go Live is (inl same) = same_stays s t same
    go Live is (inr h) = (ap (λ (z : Kept). z.id) h.0, (let same = ap (λ (z : Kept). one_if (is_here z.standing)) h.0 in omega (arith, same)))
    go (Leaving n e) is h = same_stays s t h
    go (Gone n e) is h = same_stays s t h

pub looked_kept : (next : ℕ) (xs ys : List Kept) → AllZip Looks xs ys → AreKept next xs → AreKept next ys
looked_kept next xs ys all k = kept_on next xs ys (zip_map Looks Stays xs ys look_stays all) k

rise_push : (low next : ℕ) (xs : List Kept) (y : Kept) → IdsRise low next xs → y.id ≡ next → IdsRise low (next + 1) (xs ++ y ∷ [])
rise_push low next [] y r is = (omega (arith, r, is), omega (arith, is))
rise_push low next (x ∷ xs) y r is = (r.0, rise_push (suc x.id) next xs y r.1 is)

-- one more subscribes
pub joined_kept : (next : ℕ) (xs ys : List Kept) (y : Kept) → ys ≡ xs ++ y ∷ [] → y.id ≡ next → here_in xs < most_here → AreKept next xs → AreKept (next + 1) ys
joined_kept next xs ys y is id few k =
    let P : List Kept → Type 0 = λ zs. AreKept (next + 1) zs in
    let sum = how_many-append is_here xs (y ∷ []) in
    let one : one_if (is_here y.standing) ≤ 1 = by_bool (λ b. one_if b ≤ 1) (is_here y.standing) (omega arith) (omega arith) in
    subst P (sym is) (rise_push 0 next xs y k.0 id, omega (arith, sum, one, few))

zip_length : (R : Kept → Kept → Type 0) (xs ys : List Kept) → AllZip R xs ys → length ys ≡ length xs
zip_length R [] [] all = refl
zip_length R [] (y ∷ ys) all = absurd all
zip_length R (x ∷ xs) [] all = absurd all
zip_length R (x ∷ xs) (y ∷ ys) all = ap suc (zip_length R xs ys all.1)

pub flushed_length : (xs ys : List Kept) → AllZip Flushes xs ys → length ys ≡ length xs
flushed_length xs ys all = zip_length Flushes xs ys all

pub looked_length : (xs ys : List Kept) → AllZip Looks xs ys → length ys ≡ length xs
looked_length xs ys all = zip_length Looks xs ys all

pub map_length : (f : Kept → Kept) (xs ys : List Kept) → ys ≡ map f xs → length ys ≡ length xs
map_length f xs ys is = ap length is ∙ length-map xs f

-- a list that was lent, with what is written back
pub written : (n : ℕ) (xs was ys : List Kept) → was ≡ xs → length was ≡ n → length ys ≡ length was → take n (ys ++ drop (length ys) xs) ≡ ys
written n xs was ys is size same = take_at ys (drop (length ys) xs) n (same ∙ size)

pub kept_back : (next n : ℕ) (xs was ys : List Kept) → was ≡ xs → length was ≡ n → length ys ≡ length was → (AreKept next was → AreKept next ys)
    → AreKept next xs → AreKept next (take n (ys ++ drop (length ys) xs))
kept_back next n xs was ys is size same f k =
    let P : List Kept → Type 0 = λ zs. AreKept next zs in
    subst P (sym (written n xs was ys is size same)) (f (subst P (sym is) k))

-- where nobody is live with this id, nobody leaves
pub nobody_left : (id stop : ℕ) (end : End) (xs : List Kept) → has_live id xs ≡ false → map (left_as id stop end) xs ≡ xs
nobody_left id stop end [] none = refl
nobody_left id stop end (x ∷ xs) none =
    by_bool (λ b. (if b then true else has_live id xs) ≡ false → (if b then record x { standing = Leaving stop end } else x) ∷ map (left_as id stop end) xs ≡ x ∷ xs)
    (is_live_as id x)
    (λ h. let P : Bool → Type 0 = λ b. elim b [ true ↦ Unit {0} | false ↦ ⊥ ] in absurd (subst P h tt))
    (λ h. ap (λ ys. x ∷ ys) (nobody_left id stop end xs h)) none
