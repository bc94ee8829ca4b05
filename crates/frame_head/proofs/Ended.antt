-- Frames that end with an ending: what is found in a stream is found in each longer one, so the heads of these codecs
-- stay.
use Rattle.std.proofs.Common.{◌≡◌, ℕ, ◌-◌, ◌<◌, Bool, true, false, List, [], ◌∷◌, ◌++◌, Option, Some, None, length, take, nat_lt, if◌then◌else◌, refl, ap, sym, ◌∙◌, arith, length-append, append-nil, append_assoc}
use Rattle.frame_head.specs.declared.codecs.Codec.TheVariants.{Line, Delim}
use Rattle.frame_head.specs.declared.codecs.LineEnd.{LineEnd}
use Rattle.frame_head.specs.declared.codecs.FaultKind.TheVariants.{TooLong}
use Rattle.frame_head.specs.Heads.{More, Whole, Bad, UsesAtLeast, terminated}
use Rattle.frame_head.specs.Endings.{line_endings, longest_ending, ended_or, first_ended}
use Rattle.frame_head.proofs.Steady.{Steady}

-- what was found, or else what is found behind
abbrev pub or_found : Option (List ℕ × List ℕ) → Option (List ℕ × List ℕ) → Option (List ℕ × List ℕ)
or_found (Some p) behind = Some p
or_found None behind = behind

step_joined : (front : List ℕ) (here : Option (List ℕ)) (all some behind : Option (List ℕ × List ℕ)) → all ≡ or_found some behind → ended_or front here all ≡ or_found (ended_or front here some) behind
step_joined front (Some ending) all some behind is = refl
step_joined front None all some behind is = is

-- what is found in two lists that are joined
pub first_joined : (E : List (List ℕ)) (front s r : List ℕ) → first_ended E front (s ++ r) ≡ or_found (first_ended E front s) (first_ended E (front ++ s) r)
first_joined E front [] r = ap (λ w. first_ended E w r) (sym (append-nil front))
first_joined E front (x ∷ s) r =
    step_joined (front ++ x ∷ []) (longest_ending E (front ++ x ∷ [])) (first_ended E (front ++ x ∷ []) (s ++ r)) (first_ended E (front ++ x ∷ []) s) (first_ended E (front ++ x ∷ s) r)
    (first_joined E (front ++ x ∷ []) s r ∙ ap (λ w. or_found (first_ended E (front ++ x ∷ []) s) (first_ended E w r)) (append_assoc front (x ∷ []) s))

-- where nothing was found, the longer list's first ending is found behind
pub none_then : (E : List (List ℕ)) (s r : List ℕ) → first_ended E [] s ≡ None → first_ended E [] (s ++ r) ≡ first_ended E s r
none_then E s r none = first_joined E [] s r ∙ ap (λ o. or_found o (first_ended E s r)) none

-- what was found stays
pub some_stays : (E : List (List ℕ)) (s r : List ℕ) (p : List ℕ × List ℕ) → first_ended E [] s ≡ Some p → first_ended E [] (s ++ r) ≡ Some p
some_stays E s r p some = first_joined E [] s r ∙ ap (λ o. or_found o (first_ended E s r)) some

longer_by : (front : List ℕ) (here : Option (List ℕ)) (behind : Option (List ℕ × List ℕ)) (p : List ℕ × List ℕ) (n : ℕ) → n < length front → (behind ≡ Some p → n < length p.0) → ended_or front here behind ≡ Some p → n < length p.0
longer_by front (Some ending) behind p n more later is =
    let here : List ℕ × List ℕ = (front, ending) in
    let same : here ≡ p = cc in
    omega (arith, ap (λ (w : List ℕ × List ℕ). length w.0) same)
longer_by front None behind p n more later is = later is

-- what is found behind `front` is longer
pub found_longer : (E : List (List ℕ)) (front s : List ℕ) (p : List ℕ × List ℕ) → first_ended E front s ≡ Some p → length front < length p.0
found_longer E front [] p is = absurd (cc)
found_longer E front (x ∷ s) p is =
    longer_by (front ++ x ∷ []) (longest_ending E (front ++ x ∷ [])) (first_ended E (front ++ x ∷ []) s) p (length front) (omega (arith, length-append front (x ∷ [])))
    (λ e. omega (arith, found_longer E (front ++ x ∷ []) s p e, length-append front (x ∷ []))) is

terminated_stays : (strip : Bool) (max : ℕ) (o w : Option (List ℕ × List ℕ)) → ((p : List ℕ × List ℕ) → o ≡ Some p → w ≡ Some p) → (terminated strip max o ≡ More → ⊥) → terminated strip max w ≡ terminated strip max o
terminated_stays strip max None w stays some = absurd (some refl)
terminated_stays strip max (Some p) w stays some = ap (λ v. terminated strip max v) (stays p refl)

uses_by : (long strip : Bool) (n : ℕ) (content front : List ℕ) → 0 < n → UsesAtLeast 1 (if long then Bad TooLong n else if strip then Whole content n else Whole front n)
uses_by true strip n content front some = omega arith
uses_by false true n content front some = omega arith
uses_by false false n content front some = omega arith

terminated_uses : (strip : Bool) (max : ℕ) (o : Option (List ℕ × List ℕ)) → ((p : List ℕ × List ℕ) → o ≡ Some p → 0 < length p.0) → UsesAtLeast 1 (terminated strip max o)
terminated_uses strip max None some = tt
terminated_uses strip max (Some p) some =
    uses_by (nat_lt max (length (take (length p.0 - length p.1) p.0))) strip (length p.0) (take (length p.0 - length p.1) p.0) p.0 (some p refl)

pub line_steady : (e : LineEnd) (strip : Bool) (max : ℕ) → Steady (Line e strip max)
line_steady e strip max = record {
  stable = λ s r some. terminated_stays strip max (first_ended (line_endings e) [] s) (first_ended (line_endings e) [] (s ++ r)) (λ p is. some_stays (line_endings e) s r p is) some;
  advances = λ s. terminated_uses strip max (first_ended (line_endings e) [] s) (λ p is. found_longer (line_endings e) [] s p is);
  opens = refl;
}

pub delim_steady : (list : List (List ℕ)) (strip : Bool) (max : ℕ) → Steady (Delim list strip max)
delim_steady list strip max = record {
  stable = λ s r some. terminated_stays strip max (first_ended list [] s) (first_ended list [] (s ++ r)) (λ p is. some_stays list s r p is) some;
  advances = λ s. terminated_uses strip max (first_ended list [] s) (λ p is. found_longer list [] s p is);
  opens = refl;
}
