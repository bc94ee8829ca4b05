-- Line feeds and carriage returns.
use Rattle.std.proofs.Common.{◌≡◌, ℕ, zero, suc, ◌+◌, ◌-◌, ◌<◌, ◌≤◌, Bool, true, false, ◌&&◌, ◌==◌, ◌⊎◌, inl, inr, List, [], ◌∷◌, ◌++◌, Option, Some, None, length, take, drop, nat_eq, slice_index, if◌then◌else◌, refl, ap, sym, ◌∙◌, subst, arith, append_assoc, length-append, nat_lt, lt-ltb}
use Rattle.std.proofs.Math.Seq.{drop-append_seam}
use Rattle.std.proofs.Math.Bool.{and-true}
use Rattle.std.proofs.lemmas.Bool.Decides.{nat_tests}
use Rattle.std.specs.Cmp.Lexicographic.{pointwise}
use Rattle.std.specs.List.{ends_with, Contains}
use Rattle.frame_head.specs.declared.codecs.LineEnd.{LineEnd}
use Rattle.frame_head.specs.declared.codecs.LineEnd.TheVariants.{Any, Lf, Crlf}
use Rattle.frame_head.specs.declared.codecs.Codec.TheVariants.{Line}
use Rattle.frame_head.specs.declared.codecs.FaultKind.TheVariants.{TooLong}
use Rattle.frame_head.specs.Heads.{FrameAt, FaultAt}
use Rattle.frame_head.specs.Codecs.{last_unit}
use Rattle.frame_head.specs.Endings.{line_endings, longest_ending, longer}
use Rattle.frame_rule.specs.Scanning.{IsFault}
use Rattle.frame_rule.proofs.Seeks.{Silent, to_byte}
use Rattle.frame_line.specs.Lines.{ends_in_return, ending_of, size_of_ending}

-- a list is empty, or has a last byte
last_byte : (s : List ℕ) → (s ≡ []) ⊎ ((f : List ℕ) × (y : ℕ) × (s ≡ f ++ y ∷ []))
last_byte [] = inl refl
last_byte (x ∷ s) = elim (last_byte s) [
  | inl e ↦ inr ([], x, ap (λ w. x ∷ w) e)
  | inr p ↦ inr (x ∷ p.0, p.1, ap (λ w. x ∷ w) p.2)
]

one_left : (f : List ℕ) (x : ℕ) → drop (length (f ++ x ∷ []) - 1) (f ++ x ∷ []) ≡ x ∷ []
one_left f x =
    let size : length (f ++ x ∷ []) - 1 ≡ length f = omega (arith, length-append f (x ∷ [])) in
    ap (λ n. drop n (f ++ x ∷ [])) size ∙ drop-append_seam f (x ∷ [])

two_left : (f : List ℕ) (y x : ℕ) → drop (length ((f ++ y ∷ []) ++ x ∷ []) - 2) ((f ++ y ∷ []) ++ x ∷ []) ≡ y ∷ x ∷ []
two_left f y x =
    let joined : (f ++ y ∷ []) ++ x ∷ [] ≡ f ++ y ∷ x ∷ [] = append_assoc f (y ∷ []) (x ∷ []) in
    let size : length ((f ++ y ∷ []) ++ x ∷ []) - 2 ≡ length f = omega (arith, length-append (f ++ y ∷ []) (x ∷ []), length-append f (y ∷ [])) in
    ap (λ n. drop n ((f ++ y ∷ []) ++ x ∷ [])) size ∙ ap (λ w. drop (length f) w) joined ∙ drop-append_seam f (y ∷ x ∷ [])

and_false : (b : Bool) → (b && false) ≡ false
and_false true = refl
and_false false = refl

-- whether the last byte is such a one
pub ends_in_byte : (f : List ℕ) (x m : ℕ) → ends_with nat_eq (f ++ x ∷ []) (m ∷ []) ≡ nat_eq m x
ends_in_byte f x m = ap (λ w. pointwise nat_eq (m ∷ []) w) (one_left f x) ∙ and-true (nat_eq m x)

ends_in_crlf_by : (f : List ℕ) (x : ℕ) → (f ≡ []) ⊎ ((g : List ℕ) × (y : ℕ) × (f ≡ g ++ y ∷ [])) → ends_with nat_eq (f ++ x ∷ []) (13 ∷ 10 ∷ []) ≡ (ends_in_return f && nat_eq 10 x)
ends_in_crlf_by f x (inl e) = rw e (and_false (nat_eq 13 x))
ends_in_crlf_by f x (inr p) =
    let P : List ℕ → Type 0 = λ w. ends_with nat_eq (w ++ x ∷ []) (13 ∷ 10 ∷ []) ≡ (ends_in_return w && nat_eq 10 x) in
    subst P (sym p.2)
    (ap (λ w. pointwise nat_eq (13 ∷ 10 ∷ []) w) (two_left p.0 p.1 x) ∙ ap (λ b. nat_eq 13 p.1 && b) (and-true (nat_eq 10 x)) ∙ ap (λ b. b && nat_eq 10 x) (sym (ends_in_byte p.0 p.1 13)))

ends_in_crlf : (f : List ℕ) (x : ℕ) → ends_with nat_eq (f ++ x ∷ []) (13 ∷ 10 ∷ []) ≡ (ends_in_return f && nat_eq 10 x)
ends_in_crlf f x = ends_in_crlf_by f x (last_byte f)

-- the longest of LF and CRLF, by which of them are there
chosen : Bool → Bool → Option (List ℕ)
chosen lf crlf = if lf then longer (10 ∷ []) (if crlf then Some (13 ∷ 10 ∷ []) else None) else if crlf then Some (13 ∷ 10 ∷ []) else None

chosen_is : (s : List ℕ) (a b : Bool) → ends_with nat_eq s (10 ∷ []) ≡ a → ends_with nat_eq s (13 ∷ 10 ∷ []) ≡ b → longest_ending (line_endings Any) s ≡ chosen a b
unfolding chosen
chosen_is s a b p q =
    ap (λ w. if w then longer (10 ∷ []) (if ends_with nat_eq s (13 ∷ 10 ∷ []) then Some (13 ∷ 10 ∷ []) else None) else if ends_with nat_eq s (13 ∷ 10 ∷ []) then Some (13 ∷ 10 ∷ []) else None) p
    ∙ ap (λ w. if a then longer (10 ∷ []) (if w then Some (13 ∷ 10 ∷ []) else None) else if w then Some (13 ∷ 10 ∷ []) else None) q

chosen_feed : (b : Bool) → chosen true b ≡ ending_of Any b
unfolding chosen
chosen_feed true = refl
chosen_feed false = refl

eq_flip : (a b : ℕ) → nat_eq a b ≡ nat_eq b a
eq_flip a b = grind (arith, nat_tests)

-- a line ends at a line feed alone
pub silent : (e : LineEnd) → Silent (line_endings e) (λ x. x == 10)
unfolding chosen
silent Lf = λ f x none. ap (λ b. if b then Some (10 ∷ []) else None) (ends_in_byte f x 10 ∙ eq_flip 10 x ∙ none)
silent Crlf = λ f x none. ap (λ b. if b then Some (13 ∷ 10 ∷ []) else None) (ends_in_crlf f x ∙ ap (λ b. ends_in_return f && b) (eq_flip 10 x ∙ none) ∙ and_false (ends_in_return f))
silent Any = λ f x none.
    chosen_is (f ++ x ∷ []) false false (ends_in_byte f x 10 ∙ eq_flip 10 x ∙ none) (ends_in_crlf f x ∙ ap (λ b. ends_in_return f && b) (eq_flip 10 x ∙ none) ∙ and_false (ends_in_return f))

-- the ending at a line feed
at_feed : (e : LineEnd) (f : List ℕ) → longest_ending (line_endings e) (f ++ 10 ∷ []) ≡ ending_of e (ends_in_return f)
at_feed Lf f = ap (λ b. if b then Some (10 ∷ []) else None) (ends_in_byte f 10 10)
at_feed Crlf f = ap (λ b. if b then Some (13 ∷ 10 ∷ []) else None) (ends_in_crlf f 10 ∙ and-true (ends_in_return f))
at_feed Any f = chosen_is (f ++ 10 ∷ []) true (ends_in_return f) (ends_in_byte f 10 10) (ends_in_crlf f 10 ∙ and-true (ends_in_return f)) ∙ chosen_feed (ends_in_return f)

is_ten : (x : ℕ) → (x == 10) ≡ true → x ≡ 10
is_ten x is = grind (arith, nat_tests)

-- the ending at a place
pub ending_at : (e : LineEnd) (r s : List ℕ) (place : ℕ) (b : Bool) → place < length s → (slice_index s place == 10) ≡ true → ends_in_return (r ++ take place s) ≡ b
    → longest_ending (line_endings e) (r ++ take (place + 1) s) ≡ ending_of e b
ending_at e r s place b within feed before =
    ap (λ w. longest_ending (line_endings e) w) (to_byte r s place within ∙ ap (λ x. (r ++ take place s) ++ x ∷ []) (is_ten (slice_index s place) feed))
    ∙ at_feed e (r ++ take place s) ∙ ap (λ v. ending_of e v) before

pub sized : (e : LineEnd) (b : Bool) (n : ℕ) → size_of_ending e b ≡ Some n → (m : List ℕ) × (ending_of e b ≡ Some m) × (length m ≡ n)
sized Lf b n is = let one : 1 ≡ n = cc in (10 ∷ [], refl, one)
sized Any true n is = let two : 2 ≡ n = cc in (13 ∷ 10 ∷ [], refl, two)
sized Any false n is = let one : 1 ≡ n = cc in (10 ∷ [], refl, one)
sized Crlf true n is = let two : 2 ≡ n = cc in (13 ∷ 10 ∷ [], refl, two)
sized Crlf false n is = absurd (cc)

pub unsized : (e : LineEnd) (b : Bool) → size_of_ending e b ≡ None → ending_of e b ≡ None
unsized Lf b is = absurd (cc)
unsized Any true is = absurd (cc)
unsized Any false is = absurd (cc)
unsized Crlf true is = absurd (cc)
unsized Crlf false is = refl

pub return_at : (r s : List ℕ) (place : ℕ) → 0 < place → place ≤ length s → ends_in_return (r ++ take place s) ≡ (slice_index s (place - 1) == 13)
return_at r s zero some within = absurd (omega arith)
return_at r s (suc n) some within =
    let back : suc n - 1 ≡ n = omega arith in
    let on : suc n ≡ n + 1 = omega arith in
    ap (λ k. ends_in_return (r ++ take k s)) on ∙ ap (λ w. ends_in_return w) (to_byte r s n (omega arith)) ∙ ends_in_byte (r ++ take n s) (slice_index s n) 13 ∙ eq_flip 13 (slice_index s n)
    ∙ ap (λ w. slice_index s w == 13) (sym back)

-- the endings of lines have one byte or two
pub some_byte : (e : LineEnd) (m : List ℕ) → Contains (line_endings e) m → (0 < length m) × (length m ≤ 2)
some_byte Lf m (zero, below, is) = (omega (arith, ap (λ (w : List ℕ). length w) is), omega (arith, ap (λ (w : List ℕ). length w) is))
some_byte Lf m (suc k, below, is) = absurd (omega arith)
some_byte Any m (zero, below, is) = (omega (arith, ap (λ (w : List ℕ). length w) is), omega (arith, ap (λ (w : List ℕ). length w) is))
some_byte Any m (suc zero, below, is) = (omega (arith, ap (λ (w : List ℕ). length w) is), omega (arith, ap (λ (w : List ℕ). length w) is))
some_byte Any m (suc (suc k), below, is) = absurd (omega arith)
some_byte Crlf m (zero, below, is) = (omega (arith, ap (λ (w : List ℕ). length w) is), omega (arith, ap (λ (w : List ℕ). length w) is))
some_byte Crlf m (suc k, below, is) = absurd (omega arith)

-- the end makes a fault of a line that is too long
last_long : (long : Bool) (at : ℕ) (s : List ℕ) → long ≡ true → IsFault (if long then FaultAt at TooLong else FrameAt at s)
last_long true at s is = tt
last_long false at s is = absurd (cc)

pub long_fault : (e : LineEnd) (strip : Bool) (max : ℕ) (s : List ℕ) (at : ℕ) → max < length s → IsFault (last_unit (Line e strip max) at s)
long_fault e strip max s at long = last_long (nat_lt max (length s)) at s (lt-ltb max (length s) long)
