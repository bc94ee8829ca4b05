-- Whether a list ends with a delimiter.
use Rattle.std.proofs.Common.{◌≡◌, ℕ, suc, ◌+◌, ◌-◌, ◌<◌, ◌≤◌, Bool, true, false, ◌&&◌, ◌||◌, ◌==◌, ◌⊎◌, inl, inr, List, [], ◌∷◌, ◌++◌, Option, None, length, take, drop, nat_eq, slice_index, if◌then◌else◌, refl, ap, sym, ◌∙◌, arith, append_assoc, length-append, length-drop, length-take-le, take-append-drop}
use Rattle.std.proofs.Math.Bool.{and_assoc}
use Rattle.std.proofs.Math.Seq.{drop-append-add, get_or-append_seam}
use Rattle.std.proofs.lemmas.Bool.{cases_lt, or_parts, eq-eqb}
use Rattle.std.proofs.lemmas.List.{drop-append-le, get_or-append-add}
use Rattle.std.specs.Cmp.Lexicographic.{pointwise}
use Rattle.std.specs.List.{ends_with, Contains}
use Rattle.frame_head.specs.Endings.{EndsWith, longer, longest_ending}
use Rattle.frame_head.proofs.FirstEnding.{tells_ending}
use Rattle.frame_head.proofs.Lists.{nil_from_length}
use Rattle.frame_rule.proofs.Seeks.{Silent}
use Rattle.frame_delim.specs.Marks.{NoneEmpty, NoneOver, last_byte, may_end}
use Rattle.frame_delim.specs.Tails.{last_bytes, Tells}

-- two lists in two parts each are compared part by part
pointwise-append : (a b x y : List ℕ) → length a ≡ length x → pointwise nat_eq (a ++ b) (x ++ y) ≡ (pointwise nat_eq a x && pointwise nat_eq b y)
pointwise-append [] b [] y same = refl
pointwise-append [] b (z ∷ x) y same = absurd (omega arith)
pointwise-append (z ∷ a) b [] y same = absurd (omega arith)
pointwise-append (z ∷ a) b (w ∷ x) y same = ap (λ r. nat_eq z w && r) (pointwise-append a b x y (omega arith)) ∙ sym (and_assoc (nat_eq z w) (pointwise nat_eq a x) (pointwise nat_eq b y))

-- a delimiter that begins in the first part and ends in the second
pub ends_across : (t f m : List ℕ) → length f < length m → length m - length f ≤ length t
    → ends_with nat_eq (t ++ f) m ≡ (ends_with nat_eq t (take (length m - length f) m) && pointwise nat_eq (drop (length m - length f) m) f)
ends_across t f m long within =
    let split : ℕ = length m - length f in
    let few : length (take split m) ≡ split = length-take-le split m (omega arith) in
    let place : length (t ++ f) - length m ≡ length t - length (take split m) = omega (arith, length-append t f, few) in
    let behind : drop (length t - length (take split m)) (t ++ f) ≡ drop (length t - length (take split m)) t ++ f = drop-append-le (length t - length (take split m)) t f (omega arith) in
    let size : length (take split m) ≡ length (drop (length t - length (take split m)) t) = omega (arith, length-drop (length t - length (take split m)) t, few) in
    ap (λ n. pointwise nat_eq m (drop n (t ++ f))) place ∙ ap (λ w. pointwise nat_eq m w) behind
    ∙ ap (λ w. pointwise nat_eq w (drop (length t - length (take split m)) t ++ f)) (sym (take-append-drop split m))
    ∙ pointwise-append (take split m) (drop split m) (drop (length t - length (take split m)) t) f size

-- what stands far before the end doesn't matter
ends_far : (a w m : List ℕ) → ((length a ≡ 0) ⊎ (length m ≤ length w)) → ends_with nat_eq (a ++ w) m ≡ ends_with nat_eq w m
ends_far a w m (inl none) = ap (λ v. ends_with nat_eq (v ++ w) m) (nil_from_length a (omega arith))
ends_far a w m (inr within) =
    let place : length (a ++ w) - length m ≡ length a + (length w - length m) = omega (arith, length-append a w) in
    ap (λ n. pointwise nat_eq m (drop n (a ++ w))) place ∙ ap (λ v. pointwise nat_eq m v) (drop-append-add a w (length w - length m))

longest_far_by : (a w m : List ℕ) (x y : Option (List ℕ)) → ends_with nat_eq (a ++ w) m ≡ ends_with nat_eq w m → x ≡ y
    → (if ends_with nat_eq (a ++ w) m then longer m x else x) ≡ (if ends_with nat_eq w m then longer m y else y)
longest_far_by a w m x y here rest = ap (λ b. if b then longer m x else x) here ∙ ap (λ o. if ends_with nat_eq w m then longer m o else o) rest

pub first_of : (m : List ℕ) (ms : List (List ℕ)) → Contains (m ∷ ms) m
first_of m ms = (0, omega arith, refl)

pub behind_of : (m x : List ℕ) (ms : List (List ℕ)) → Contains ms x → Contains (m ∷ ms) x
behind_of m x ms (k, below, is) = (suc k, omega arith, is)

far_by : (n : ℕ) (a m w : List ℕ) → ((length a ≡ 0) ⊎ (n ≤ length w)) → length m ≤ n → (length a ≡ 0) ⊎ (length m ≤ length w)
far_by n a m w (inl none) few = inl none
far_by n a m w (inr within) few = inr (omega arith)

longest_far : (E : List (List ℕ)) (n : ℕ) (a w : List ℕ) → NoneOver n E → ((length a ≡ 0) ⊎ (n ≤ length w)) → longest_ending E (a ++ w) ≡ longest_ending E w
longest_far [] n a w few far = refl
longest_far (m ∷ ms) n a w few far =
    longest_far_by a w m (longest_ending ms (a ++ w)) (longest_ending ms w) (ends_far a w m (far_by n a m w far (few m (first_of m ms))))
    (longest_far ms n a w (λ x there. few x (behind_of m x ms there)) far)

far_of : (r f : List ℕ) (n : ℕ) → 0 < n → 0 < length f → ((length r < n - 1) ⊎ (n - 1 ≤ length r)) → (length (take (length r - (n - 1)) r) ≡ 0) ⊎ (n ≤ length (drop (length r - (n - 1)) r ++ f))
far_of r f n some more (inl short) = inl (omega (arith, length-take-le (length r - (n - 1)) r (omega arith)))
far_of r f n some more (inr long) = inr (omega (arith, length-append (drop (length r - (n - 1)) r) f, length-drop (length r - (n - 1)) r))

-- the last bytes, one fewer than the longest delimiter has, tell which delimiter ends behind them
pub last_tell : (E : List (List ℕ)) (n : ℕ) (r : List ℕ) → NoneOver n E → 0 < n → Tells E (last_bytes (n - 1) r) r
last_tell E n r few some = λ f more.
    let k : ℕ = length r - (n - 1) in
    let whole : r ++ f ≡ take k r ++ (drop k r ++ f) = ap (λ w. w ++ f) (sym (take-append-drop k r)) ∙ append_assoc (take k r) (drop k r) f in
    ap (λ w. longest_ending E w) whole ∙ longest_far E n (take k r) (drop k r ++ f) few (far_of r f n some more (cases_lt (length r) (n - 1)))

-- a list that ends with a delimiter has its last byte
last_same : (f m : List ℕ) (x : ℕ) → 0 < length m → EndsWith (f ++ x ∷ []) m → x ≡ last_byte m
last_same f m x some (front, is) =
    let size : length f ≡ length front + (length m - 1) = omega (arith, ap (λ (w : List ℕ). length w) is, length-append f (x ∷ []), length-append front m) in
    sym (get_or-append_seam f x [] 0) ∙ ap (λ n. slice_index (f ++ x ∷ []) n) size ∙ ap (λ w. slice_index w (length front + (length m - 1))) is ∙ get_or-append-add front m (length m - 1) 0

not_true : (b : Bool) → (b ≡ true → ⊥) → b ≡ false
not_true true not = absurd (not refl)
not_true false not = refl

other_byte : (f m : List ℕ) (x : ℕ) → 0 < length m → (x == last_byte m) ≡ false → ends_with nat_eq (f ++ x ∷ []) m ≡ false
other_byte f m x some other =
    not_true (ends_with nat_eq (f ++ x ∷ []) m) (λ ends.
    let clash : true ≡ false = sym (eq-eqb x (last_byte m) (last_same f m x some (tells_ending (f ++ x ∷ []) m ends))) ∙ other in cc clash)

skip_one : (m : List ℕ) (s : List ℕ) (o : Option (List ℕ)) → ends_with nat_eq s m ≡ false → o ≡ None → (if ends_with nat_eq s m then longer m o else o) ≡ None
skip_one m s o not none = ap (λ b. if b then longer m o else o) not ∙ none

-- a byte that may end no delimiter ends none
pub silent : (E : List (List ℕ)) → NoneEmpty E → Silent E (may_end E)
silent [] some = λ f x none. refl
silent (a ∷ []) some = λ f x none. skip_one a (f ++ x ∷ []) None (other_byte f a x (some a (first_of a [])) none) refl
silent (a ∷ b ∷ []) some = λ f x none.
    let parts = or_parts (x == last_byte a) (x == last_byte b) none in
    skip_one a (f ++ x ∷ []) (longest_ending (b ∷ []) (f ++ x ∷ [])) (other_byte f a x (some a (first_of a (b ∷ []))) parts.0)
    (skip_one b (f ++ x ∷ []) None (other_byte f b x (some b (behind_of a b (b ∷ []) (first_of b []))) parts.1) refl)
silent (a ∷ b ∷ c ∷ []) some = λ f x none.
    let most = or_parts (x == last_byte a || x == last_byte b) (x == last_byte c) none in
    let parts = or_parts (x == last_byte a) (x == last_byte b) most.0 in
    skip_one a (f ++ x ∷ []) (longest_ending (b ∷ c ∷ []) (f ++ x ∷ [])) (other_byte f a x (some a (first_of a (b ∷ c ∷ []))) parts.0)
    (skip_one b (f ++ x ∷ []) (longest_ending (c ∷ []) (f ++ x ∷ [])) (other_byte f b x (some b (behind_of a b (b ∷ c ∷ []) (first_of b (c ∷ [])))) parts.1)
    (skip_one c (f ++ x ∷ []) None (other_byte f c x (some c (behind_of a c (b ∷ c ∷ []) (behind_of b c (c ∷ []) (first_of c [])))) most.1) refl))
silent (a ∷ b ∷ c ∷ d ∷ E) some = λ f x none. absurd (cc none)
