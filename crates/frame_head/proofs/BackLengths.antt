-- Frames behind their lengths are told by the codec with the same field.
use Rattle.std.proofs.Common.{◌≡◌, ℕ, ◌+◌, ◌^◌, ◌<◌, ◌≤◌, pos, Bool, true, false, List, ◌++◌, length, take, drop, nat_lt, if◌then◌else◌, refl, ap, sym, ◌∙◌, arith, append_assoc, append-nil, length-append, le-ltb}
use Rattle.std.proofs.Math.Seq.{take-append_seam, drop-append_seam}
use Rattle.frame_head.specs.declared.codecs.FaultKind.TheVariants.{TooLong, StripOver}
use Rattle.frame_head.specs.declared.out.Out.TheVariants.{Length}
use Rattle.frame_head.specs.Numbers.{number_in_order, adjusted}
use Rattle.frame_head.specs.Heads.{More, Whole, Bad, sized, measured, length_head}
use Rattle.frame_head.specs.Framed.{field_bytes, fits_field, framed}
use Rattle.frame_head.specs.ReadingBack.{length_codec, LengthsReadBack}
use Rattle.frame_head.proofs.Cases.{passed_steady}
use Rattle.frame_head.proofs.Fields.{field_count}
use Rattle.frame_head.proofs.Written.{fits_below, told_number}
use Rattle.frame_head.proofs.Back.{Tells, reads_back}

sized_by : (a b x : Bool) (t : ℕ) (c : List ℕ) → a ≡ false → b ≡ false → x ≡ false
    → (if a then Bad TooLong t else if b then Bad StripOver t else if x then More else Whole c t) ≡ Whole c t
sized_by a b x t c p q r = rw (p, q, r) refl

sized_whole : (strip max t : ℕ) (s : List ℕ) → t ≤ max → strip ≤ t → t ≤ length s → sized strip max t s ≡ Whole (drop strip (take t s)) t
sized_whole strip max t s below stripped there =
    sized_by (nat_lt max t) (nat_lt t strip) (nat_lt (length s) t) t (drop strip (take t s)) (le-ltb max t below) (le-ltb t strip stripped) (le-ltb (length s) t there)

-- a frame `f` behind the field `h`, which holds its length
head_whole : (field max : ℕ) (little : Bool) (h f r : List ℕ) → length h ≡ field → number_in_order little h ≡ length f → length f + field ≤ max
    → length_head field 0 (pos 0) field little max (h ++ f ++ r) ≡ Whole f (field + length f)
head_whole field max little h f r size is within =
    let s = h ++ f ++ r in
    let front : take field (h ++ f ++ r) ≡ h = ap (λ w. take field w) (append_assoc h f r) ∙ ap (λ w. take w (h ++ (f ++ r))) (sym size) ∙ take-append_seam h (f ++ r) in
    let total : length f + 0 + (0 + field) ≡ field + length f = omega arith in
    let long : field + length f ≤ length (h ++ f ++ r) = omega (arith, length-append (h ++ f) r, length-append h f) in
    let both : take (field + length f) (h ++ f ++ r) ≡ h ++ f =
    ap (λ w. take w (h ++ f ++ r)) (ap (λ w. w + length f) (sym size) ∙ sym (length-append h f)) ∙ take-append_seam (h ++ f) r in
    let content : drop field (h ++ f) ≡ f = ap (λ w. drop w (h ++ f)) (sym size) ∙ drop-append_seam h f in
    let there : nat_lt (length (h ++ f ++ r)) (0 + field) ≡ false = le-ltb (length (h ++ f ++ r)) (0 + field) (omega (arith, long)) in
    ap (λ b. if b then More else measured field max (0 + field) (adjusted (number_in_order little (take field s)) (pos 0)) s) there
    ∙ ap (λ w. measured field max (0 + field) (adjusted (number_in_order little w) (pos 0)) s) front
    ∙ ap (λ w. measured field max (0 + field) (adjusted w (pos 0)) s) is
    ∙ ap (λ w. sized field max w s) total
    ∙ sized_whole field max (field + length f) s (omega arith) (omega arith) long
    ∙ ap (λ w. Whole (drop field w) (field + length f)) both
    ∙ ap (λ w. Whole w (field + length f)) content

length_tells : (field max n : ℕ) (little : Bool) (f : List ℕ) → fits_field (Length field little) n ≡ true → n + field ≤ max → length f ≤ n → Tells (length_codec field little max) (Length field little) f
length_tells field max n little f fits within short = λ r.
    let h = field_bytes field little (length f) in
    let below : length f < 256 ^ field = omega (arith, fits_below field little n fits) in
    let e : framed (Length field little) f ≡ h ++ f = append-nil (h ++ f) in
    let size : field + length f ≡ length (framed (Length field little) f) =
    sym (ap (λ (w : List ℕ). length w) e ∙ length-append h f ∙ ap (λ w. w + length f) (field_count field little (length f))) in
    ap (λ w. length_head field 0 (pos 0) field little max (w ++ r)) e
    ∙ head_whole field max little h f r (field_count field little (length f)) (told_number field little (length f) below) (omega arith)
    ∙ ap (λ w. Whole f w) size

pub lengths_read_back : LengthsReadBack
lengths_read_back field little max n frames checked fits within short =
    reads_back (length_codec field little max) (passed_steady (length_codec field little max) checked) (Length field little) frames
    (λ k d below. length_tells field max n little _ fits within (short k d below))
