-- Framed text, and the whole frames in a front of it.
use Rattle.std.proofs.Common.{◌≡◌, ℕ, zero, suc, ◌+◌, ◌-◌, ◌<◌, ◌≤◌, ◌^◌, Bool, true, false, not, List, [], ◌∷◌, ◌++◌, None, length, take, drop, nat_lt, if◌then◌else◌, refl, ap, sym, ◌∙◌, arith, append-nil, length-append, take-append-drop, ltb-false}
use Rattle.std.proofs.Math.Nat.{mod-eq_of_lt}
use Rattle.std.proofs.Math.Seq.{take-append-add}
use Rattle.std.proofs.lemmas.Bool.{ltb-true}
use Rattle.std.proofs.lemmas.Grind.{flat_map-append}
use Rattle.frame_head.specs.declared.out.Out.{Out}
use Rattle.frame_head.specs.declared.checks.CodecFault.TheVariants.{BadField}
use Rattle.frame_head.specs.declared.out.Out.TheVariants.{Length, Line, Delim, Raw}
use Rattle.frame_head.specs.Checks.{is_field, fault_if}
use Rattle.frame_head.specs.Numbers.{number_in_order}
use Rattle.frame_head.specs.Longest.{most_in_field}
use Rattle.frame_head.specs.Framed.{field_bytes, fits_field, framed, framed_text, whole_frames}
use Rattle.frame_head.specs.FramedLaws.{KnownFields, FieldNumbers, FramedPieces, IsWholeCount, IsFrontWith, WholeFrames}
use Rattle.frame_head.proofs.Fields.{some_power, field_count, field_all, field_number}

-- a number that isn't over the greatest is below the power
fits_by : (x : Bool) (k n : ℕ) → nat_lt (most_in_field k) n ≡ x → not x ≡ true → n < 256 ^ k
fits_by true k n test fits = absurd (cc)
fits_by false k n test fits = omega (arith, ltb-false (most_in_field k) n test, some_power k)

pub fits_below : (k : ℕ) (little : Bool) (n : ℕ) → fits_field (Length k little) n ≡ true → n < 256 ^ k
fits_below k little n fits = fits_by (nat_lt (most_in_field k) n) k n refl fits

pub told_number : (k : ℕ) (little : Bool) (n : ℕ) → n < 256 ^ k → number_in_order little (field_bytes k little n) ≡ n
told_number k little n below = field_number k little n ∙ mod-eq_of_lt below

known_by : (x : Bool) → fault_if (not x) BadField ≡ None → x ≡ true
known_by true passed = refl
known_by false passed = absurd (cc)

pub known_fields : KnownFields
known_fields (Length field little) passed = known_by (is_field field) passed
known_fields (Line crlf) passed = refl
known_fields (Delim mark) passed = refl
known_fields Raw passed = refl

pub field_numbers : FieldNumbers
field_numbers = record {
  size = λ k little n. field_count k little n;
  bytes = λ k little n. field_all k little n;
  told = λ k little n fits. told_number k little n (fits_below k little n fits);
  number = λ k little n. field_number k little n;
}

pub joined_text : (out : Out) (frames others : List (List ℕ)) → framed_text out (frames ++ others) ≡ framed_text out frames ++ framed_text out others
joined_text out frames others = flat_map-append (framed out) frames others

parts_text : (out : Out) (frames : List (List ℕ)) (k : ℕ) → framed_text out frames ≡ framed_text out (take k frames) ++ framed_text out (drop k frames)
parts_text out frames k = sym (ap (λ w. framed_text out w) (take-append-drop k frames)) ∙ joined_text out (take k frames) (drop k frames)

pub framed_pieces : FramedPieces
framed_pieces = record {
  joined = joined_text;
  more = λ out frames frame. joined_text out frames (frame ∷ []) ∙ ap (λ w. framed_text out frames ++ w) (append-nil (framed out frame));
  parts = parts_text;
}

none_fits : (out : Out) (frame : List ℕ) (frames : List (List ℕ)) (n k : ℕ) → n < length (framed out frame) → length (framed_text out (take k (frame ∷ frames))) ≤ n → k ≤ 0
none_fits out frame frames n zero short fits = omega arith
none_fits out frame frames n (suc k) short fits = absurd (omega (arith, length-append (framed out frame) (framed_text out (take k frames))))

one_more : (out : Out) (frame : List ℕ) (frames : List (List ℕ)) (n c k : ℕ) → IsWholeCount out frames (n - length (framed out frame)) c → k ≤ length (frame ∷ frames) → length (framed_text out (take k (frame ∷ frames))) ≤ n → k ≤ suc c
one_more out frame frames n c zero is within fits = omega arith
one_more out frame frames n c (suc k) is within fits =
    omega (arith, is.most k (omega arith) (omega (arith, length-append (framed out frame) (framed_text out (take k frames)))))

-- the count of a list, from what its first frame's test says and the count of the others
count_by : (out : Out) (frame : List ℕ) (frames : List (List ℕ)) (n c : ℕ) (short : Bool) → nat_lt n (length (framed out frame)) ≡ short
    → IsWholeCount out frames (n - length (framed out frame)) c → IsWholeCount out (frame ∷ frames) n (if short then 0 else suc c)
count_by out frame frames n c true test is = record {
  within = omega arith;
  fits = omega arith;
  most = λ k within fits. none_fits out frame frames n k (ltb-true n (length (framed out frame)) test) fits;
}
count_by out frame frames n c false test is =
    let there = ltb-false n (length (framed out frame)) test in
    record {
      within = omega (arith, is.within);
      fits = omega (arith, is.fits, length-append (framed out frame) (framed_text out (take c frames)));
      most = λ k within fits. one_more out frame frames n c k is within fits;
    }

count_is : (out : Out) (frames : List (List ℕ)) (n : ℕ) → IsWholeCount out frames n (whole_frames out frames n)
count_is out [] n = record { within = omega arith; fits = omega arith; most = λ k within fits. within }
count_is out (frame ∷ frames) n =
    count_by out frame frames n (whole_frames out frames (n - length (framed out frame))) (nat_lt n (length (framed out frame))) refl
    (count_is out frames (n - length (framed out frame)))

-- a front of a text, where a front of it is no longer than it
front_by : (t a b : List ℕ) (n : ℕ) → t ≡ a ++ b → length a ≤ n → take n t ≡ a ++ take (n - length a) b
front_by t a b n is within =
    let e : n ≡ length a + (n - length a) = omega arith in
    ap (λ w. take n w) is ∙ ap (λ m. take m (a ++ b)) e ∙ take-append-add a b (n - length a)

front_is : (out : Out) (frames : List (List ℕ)) (n : ℕ) → IsFrontWith out frames n (whole_frames out frames n)
front_is out frames n =
    let c = whole_frames out frames n in
    front_by (framed_text out frames) (framed_text out (take c frames)) (framed_text out (drop c frames)) n (parts_text out frames c) (count_is out frames n).fits

take_whole : {X : Type 0} (xs : List X) → take (length xs) xs ≡ xs
take_whole [] = refl
take_whole (x ∷ xs) = ap (λ w. x ∷ w) (take_whole xs)

-- a count is at least that of a list of which it is known that it fits
at_least : (out : Out) (frames : List (List ℕ)) (n k : ℕ) → k ≤ length frames → length (framed_text out (take k frames)) ≤ n → k ≤ whole_frames out frames n
at_least out frames n k within fits = (count_is out frames n).most k within fits

all_whole : (out : Out) (frames : List (List ℕ)) (n : ℕ) → length (framed_text out frames) ≤ n → whole_frames out frames n ≡ length frames
all_whole out frames n within =
    let e : length (framed_text out (take (length frames) frames)) ≡ length (framed_text out frames) = ap (λ w. length (framed_text out w)) (take_whole frames) in
    omega (arith, (count_is out frames n).within, at_least out frames n (length frames) (omega arith) (omega (arith, e)))

monotone : (out : Out) (frames : List (List ℕ)) (n m : ℕ) → n ≤ m → whole_frames out frames n ≤ whole_frames out frames m
monotone out frames n m less =
    let is = count_is out frames n in at_least out frames m (whole_frames out frames n) is.within (omega (arith, is.fits))

joined_by : (short : Bool) (n t c d : ℕ) → nat_lt n t ≡ short → t ≤ n → c ≡ d → (if short then 0 else suc c) ≡ suc d
joined_by true n t c d test there same = absurd (omega (arith, ltb-true n t test))
joined_by false n t c d test there same = ap (λ w. suc w) same

joined_count : (out : Out) (frames others : List (List ℕ)) (n : ℕ) → whole_frames out (frames ++ others) (length (framed_text out frames) + n) ≡ length frames + whole_frames out others n
joined_count out [] others n =
    let e : 0 + n ≡ n = omega arith in
    let z : whole_frames out others n ≡ 0 + whole_frames out others n = omega arith in
    ap (λ w. whole_frames out others w) e ∙ z
joined_count out (frame ∷ frames) others n =
    let all = length (framed_text out (frame ∷ frames)) + n in
    let size : length (framed_text out (frame ∷ frames)) ≡ length (framed out frame) + length (framed_text out frames) = length-append (framed out frame) (framed_text out frames) in
    let left : length (framed_text out (frame ∷ frames)) + n - length (framed out frame) ≡ length (framed_text out frames) + n = omega (arith, size) in
    let later = ap (λ w. whole_frames out (frames ++ others) w) left ∙ joined_count out frames others n in
    let sum : suc (length frames + whole_frames out others n) ≡ suc (length frames) + whole_frames out others n = omega arith in
    joined_by (nat_lt (length (framed_text out (frame ∷ frames)) + n) (length (framed out frame))) (length (framed_text out (frame ∷ frames)) + n) (length (framed out frame)) _ _ refl
    (omega (arith, size)) later ∙ sum

pub whole_laws : WholeFrames
whole_laws = record { count = count_is; front = front_is; all = all_whole; monotone = monotone; joined = joined_count }
