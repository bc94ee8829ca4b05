-- Frames whose length field is there, or comes in parts.
use Rattle.std.proofs.Common.{◌≡◌, ℕ, ◌+◌, ◌-◌, ◌<◌, ◌≤◌, Bool, true, false, ◌⊎◌, inl, inr, List, [], ◌++◌, Option, Some, None, length, take, drop, min, nat_lt, if◌then◌else◌, refl, ap, sym, ◌∙◌, subst, arith, append_assoc, length-append, length-drop, length-take-le, take-append-drop, take_all, ltb-false, le-ltb, lt-ltb, drop_of_length-le}
use Rattle.std.proofs.Math.Seq.{drop-nil}
use Rattle.std.proofs.lemmas.List.{drop-take}
use Rattle.std.proofs.lemmas.Bool.{ltb-true, cases_lt}
use Rattle.frame_head.specs.declared.codecs.FaultKind.TheVariants.{TooSmall, TooLong, StripOver, Cut, BadLine}
use Rattle.frame_head.specs.Codecs.{head, fault_of}
use Rattle.frame_head.specs.Numbers.{number_in_order, adjusted}
use Rattle.frame_head.specs.Heads.{Head, More, Whole, Bad, sized, measured}
use Rattle.frame_head.proofs.Lists.{drop_both}
use Rattle.frame_head.proofs.Length.{same_field, some_field}
use Rattle.frame_rule.specs.declared.scanner.Scan.{Scan}
use Rattle.frame_rule.specs.declared.scanner.Scan.TheVariants.{Open, Frame}
use Rattle.frame_rule.specs.Scanning.{Scanned, inner}
use Rattle.frame_length.specs.declared.length_scanner.Header.{Header}
use Rattle.frame_length.specs.declared.length_scanner.Aim.{Aim}
use Rattle.frame_length.specs.declared.length_scanner.Aim.TheVariants.{Short, Wrong, At}
use Rattle.frame_length.specs.Fields.{Aims, AimsBehind, AimsBy, Looked, Saw, codec_by, field_end, said, scan_toward, target_behind}

there_if : (x : Bool) (m : Head) → x ≡ false → (if x then More else m) ≡ m
there_if x m e = rw e refl

head_said : (h : Header) (w : List ℕ) (o : Option ℕ) → field_end h ≤ length w → said h w ≡ o → head (codec_by h) w ≡ measured h.strip h.max (field_end h) o w
head_said h w o there is =
    there_if (nat_lt (length w) (field_end h)) (measured h.strip h.max (field_end h) (said h w) w) (le-ltb (length w) (field_end h) there) ∙ ap (λ v. measured h.strip h.max (field_end h) v w) is

-- what a frame of `t` bytes is, by the three tests
sized_by : (a b x : Bool) (t strip : ℕ) (c : List ℕ) (d : Head) → (if a then Bad TooLong t else if b then Bad StripOver t else if x then More else Whole c t) ≡ d
    → (p q r : Bool) → p ≡ a → q ≡ b → r ≡ x → (if p then Bad TooLong t else if q then Bad StripOver t else if r then More else Whole c t) ≡ d
sized_by a b x t strip c d is p q r e f g = rw (e, f, g) is

sized_long : (strip max t : ℕ) (s : List ℕ) → max < t → sized strip max t s ≡ Bad TooLong t
sized_long strip max t s over = sized_by true (nat_lt t strip) (nat_lt (length s) t) t strip (drop strip (take t s)) (Bad TooLong t) refl _ _ _ (lt-ltb max t over) refl refl

sized_stripped : (strip max t : ℕ) (s : List ℕ) → t ≤ max → t < strip → sized strip max t s ≡ Bad StripOver t
sized_stripped strip max t s within over = sized_by false true (nat_lt (length s) t) t strip (drop strip (take t s)) (Bad StripOver t) refl _ _ _ (le-ltb max t within) (lt-ltb t strip over) refl

sized_open : (strip max t : ℕ) (s : List ℕ) → t ≤ max → strip ≤ t → length s < t → sized strip max t s ≡ More
sized_open strip max t s within over short = sized_by false false true t strip (drop strip (take t s)) More refl _ _ _ (le-ltb max t within) (le-ltb t strip over) (lt-ltb (length s) t short)

sized_whole : (strip max t : ℕ) (s : List ℕ) → t ≤ max → strip ≤ t → t ≤ length s → sized strip max t s ≡ Whole (drop strip (take t s)) t
sized_whole strip max t s within over all = sized_by false false false t strip (drop strip (take t s)) (Whole (drop strip (take t s)) t) refl _ _ _ (le-ltb max t within) (le-ltb t strip over) (le-ltb (length s) t all)

-- what a field says is said in each longer stream, and in each front that has the field
said_more : (h : Header) (a b : List ℕ) → field_end h ≤ length a → said h (a ++ b) ≡ said h a
said_more h a b there = ap (λ w. adjusted (number_in_order h.little w) h.adjust) (same_field h.field h.offset a b there)

pub aims_more : (h : Header) (t : ℕ) (a b : List ℕ) → Aims h t a → Aims h t (a ++ b)
aims_more h t a b aims = record {
  there = omega (arith, aims.there, length-append a b);
  behind = aims.behind;
  is = said_more h a b aims.there ∙ aims.is;
  place = aims.place;
  within = aims.within;
  over = aims.over;
}

aims_front : (h : Header) (t : ℕ) (a b : List ℕ) → field_end h ≤ length a → Aims h t (a ++ b) → Aims h t a
aims_front h t a b there aims = record {
  there = there;
  behind = aims.behind;
  is = sym (said_more h a b there) ∙ aims.is;
  place = aims.place;
  within = aims.within;
  over = aims.over;
}

aims_head : (h : Header) (t : ℕ) (w : List ℕ) → Aims h t w → head (codec_by h) w ≡ sized h.strip h.max t w
aims_head h t w aims = head_said h w (Some aims.behind) aims.there aims.is ∙ ap (λ n. sized h.strip h.max n w) (sym aims.place)

pub saw_nothing : (h : Header) (seen : List ℕ) → fault_of (codec_by h) ≡ None → Saw h seen None []
saw_nothing h seen checked = (
  omega (arith, some_field h.field h.offset h.max checked),
  (let none : 0 - h.offset ≡ 0 = omega arith in ap (λ n. take n seen) none) ∙ sym (drop-nil h.offset),
)

around : (r s : List ℕ) (n : ℕ) → (r ++ take n s) ++ drop n s ≡ r ++ s
around r s n = append_assoc r (take n s) (drop n s) ∙ ap (λ w. r ++ w) (take-append-drop n s)

-- what a scanner by this header has seen, with what `check` says of it
abbrev pub Seen : Header → List ℕ → Option ℕ → List ℕ → Type 0
Seen h seen target w = (fault_of (codec_by h) ≡ None) × Saw h seen target w

toward_by : (h : Header) (t : ℕ) (r s seen : List ℕ) (short : Bool) → nat_lt (length s) (t - length r) ≡ short → fault_of (codec_by h) ≡ None → Aims h t (r ++ s) → length r < t
    → Scanned (codec_by h) r s (if short then Open else Frame (t - length r) h.strip 0) (Seen h seen (if short then Some t else None))
toward_by h t r s seen true is checked aims still =
    let less : length (r ++ s) < t = omega (arith, ltb-true (length s) (t - length r) is, length-append r s) in
    (aims_head h t (r ++ s) aims ∙ sized_open h.strip h.max t (r ++ s) aims.within aims.over less, omega (arith, aims.within, length-append r s), (checked, (aims, less)))
toward_by h t r s seen false is checked aims still =
    let within : t - length r ≤ length s = ltb-false (length s) (t - length r) is in
    let w : List ℕ = r ++ take (t - length r) s in
    let size : length w ≡ t = omega (arith, length-append r (take (t - length r) s), length-take-le (t - length r) s within) in
    let P : List ℕ → Type 0 = λ v. Aims h t v in
    let front : Aims h t w = aims_front h t w (drop (t - length r) s) (omega (arith, aims.place, size)) (subst P (sym (around r s (t - length r))) aims) in
    let all : length r + (t - length r) ≡ t = omega arith in
    let same : take t w ≡ take (length w - 0) w = take_all t w (omega (arith, size)) ∙ sym (take_all (length w - 0) w (omega arith)) in (
      within,
      omega (arith, aims.over),
      aims_head h t w front ∙ sized_whole h.strip h.max t w front.within front.over (omega (arith, size)) ∙ ap (λ v. Whole (drop h.strip v) t) same ∙ ap (λ n. Whole (inner h.strip 0 w) n) (sym all),
      (checked, saw_nothing h seen checked),
    )

-- the same, by what was computed
retold : (h : Header) (t have : ℕ) (r s seen : List ℕ) (scan : Scan) (target : Option ℕ) → length r ≡ have → scan ≡ scan_toward t h.strip have (length s) → target ≡ target_behind t have (length s)
    → Scanned (codec_by h) r s (scan_toward t h.strip (length r) (length s)) (Seen h seen (target_behind t (length r) (length s)))
    → Scanned (codec_by h) r s scan (Seen h seen target)
retold h t have r s seen scan target size p q told =
    let A : ℕ → Type 0 = λ k. Scanned (codec_by h) r s (scan_toward t h.strip k (length s)) (Seen h seen (target_behind t k (length s))) in
    let B : Scan → Type 0 = λ x. Scanned (codec_by h) r s x (Seen h seen (target_behind t have (length s))) in
    let C : Option ℕ → Type 0 = λ o. Scanned (codec_by h) r s scan (Seen h seen o) in
    subst C (sym q) (subst B (sym p) (subst A size told))

-- a frame whose size was known
pub scanned_toward : (h : Header) (t have : ℕ) (r s seen : List ℕ) (scan : Scan) (target : Option ℕ) → fault_of (codec_by h) ≡ None → length r ≡ have → Aims h t r → length r < t
    → scan ≡ scan_toward t h.strip have (length s) → target ≡ target_behind t have (length s) → Scanned (codec_by h) r s scan (Seen h seen target)
scanned_toward h t have r s seen scan target checked size aims still p q =
    retold h t have r s seen scan target size p q (toward_by h t r s seen (nat_lt (length s) (t - length r)) refl checked (aims_more h t r s aims) still)

-- a frame whose size becomes known
pub scanned_aimed : (h : Header) (t have : ℕ) (r s seen : List ℕ) (scan : Scan) (target : Option ℕ) → fault_of (codec_by h) ≡ None → length r ≡ have → length r < field_end h → Looked h seen r s (At t)
    → scan ≡ scan_toward t h.strip have (length s) → target ≡ target_behind t have (length s) → Scanned (codec_by h) r s scan (Seen h seen target)
scanned_aimed h t have r s seen scan target checked size still looked p q =
    let P : List ℕ → Type 0 = λ v. Aims h t v in
    let n : ℕ = field_end h - length r in
    retold h t have r s seen scan target size p q
    (toward_by h t r s seen (nat_lt (length s) (t - length r)) refl checked (subst P (around r s n) (aims_more h t (r ++ take n s) (drop n s) looked.1)) (omega (arith, looked.1.place)))

same_skip : (a n skipped : ℕ) (q : List ℕ) → skipped ≡ min a n → length q ≡ n → ((a < n) ⊎ (n ≤ a)) → drop skipped q ≡ drop a q
same_skip a n skipped q is size (inl less) = let e : skipped ≡ a = omega arith in ap (λ k. drop k q) e
same_skip a n skipped q is size (inr over) = drop_of_length-le q (omega arith) ∙ sym (drop_of_length-le q (omega arith))

-- the bytes of the field that are kept, with those that came
pub field_kept : (h : Header) (r s seen new part : List ℕ) (have n passed : ℕ) → length r ≡ have → n ≤ length s → passed ≡ min (h.offset - have) n
    → take (have - h.offset) seen ≡ drop h.offset r → part ≡ take (n - passed) (drop passed s) → take (have - h.offset + length part) new ≡ take (have - h.offset) seen ++ part
    → take (length (r ++ take n s) - h.offset) new ≡ drop h.offset (r ++ take n s)
field_kept h r s seen new part have n passed size within passes before is kept =
    let few : length (take n s) ≡ n = length-take-le n s within in
    let all : passed + (n - passed) ≡ n = omega (arith, passes) in
    let came : part ≡ drop passed (take n s) = is ∙ sym (drop-take passed (n - passed) s) ∙ ap (λ k. drop passed (take k s)) all in
    let long : length part ≡ n - passed = ap (λ w. length w) came ∙ length-drop passed (take n s) ∙ ap (λ k. k - passed) few in
    let count : length (r ++ take n s) - h.offset ≡ have - h.offset + length part = omega (arith, length-append r (take n s), few, long, passes, size) in
    ap (λ k. take k new) count ∙ kept ∙ ap (λ w. w ++ part) before
    ∙ ap (λ w. drop h.offset r ++ w) (came ∙ same_skip (h.offset - have) n passed (take n s) passes few (cases_lt (h.offset - have) n) ∙ ap (λ k. drop (h.offset - k) (take n s)) (sym size))
    ∙ sym (drop_both h.offset r (take n s))

-- what the kept bytes of a whole field say is what it says
said_kept : (h : Header) (w seen : List ℕ) → length w ≡ field_end h → take (length w - h.offset) seen ≡ drop h.offset w → take h.field seen ≡ take h.field (drop h.offset w)
said_kept h w seen all kept =
    let size : length w - h.offset ≡ h.field = omega arith in
    let long : length (drop h.offset w) ≡ h.field = length-drop h.offset w ∙ size in
    ap (λ n. take n seen) (sym size) ∙ kept ∙ sym (take_all h.field (drop h.offset w) (omega (arith, long)))

sum_flip : (a b : ℕ) → a + b ≡ b + a
sum_flip a b = omega arith

-- what is told once the field is there, by what it says
looked_by : (h : Header) (seen r s w : List ℕ) (behind : ℕ) (a : Aim) → w ≡ r ++ take (field_end h - length r) s → field_end h ≤ length r + length s → field_end h ≤ length w → said h w ≡ Some behind
    → AimsBehind h.strip h.max (field_end h) behind a → Looked h seen r s a
looked_by h seen r s w behind Short joined there all is aims = absurd aims
looked_by h seen r s w behind (Wrong TooLong over) joined there all is aims =
    (there, ap (λ v. head (codec_by h) v) (sym joined) ∙ head_said h w (Some behind) all is ∙ sized_long h.strip h.max (behind + field_end h) w aims.1 ∙ ap (λ n. Bad TooLong n) (sum_flip behind (field_end h) ∙ ap (λ n. field_end h + n) (sym aims.0)))
looked_by h seen r s w behind (Wrong StripOver over) joined there all is aims =
    (there, ap (λ v. head (codec_by h) v) (sym joined) ∙ head_said h w (Some behind) all is ∙ sized_stripped h.strip h.max (behind + field_end h) w aims.1 aims.2 ∙ ap (λ n. Bad StripOver n) (sum_flip behind (field_end h) ∙ ap (λ n. field_end h + n) (sym aims.0)))
looked_by h seen r s w behind (Wrong TooSmall over) joined there all is aims = absurd aims
looked_by h seen r s w behind (Wrong Cut over) joined there all is aims = absurd aims
looked_by h seen r s w behind (Wrong BadLine over) joined there all is aims = absurd aims
looked_by h seen r s w behind (At t) joined there all is aims =
    let P : List ℕ → Type 0 = λ v. Aims h t v in
    (there, subst P joined (record { there = all; behind = behind; is = is; place = aims.0; within = aims.1; over = aims.2 }))

-- how many bytes there are once the field is there
to_field : (h : Header) (r s : List ℕ) → length r < field_end h → field_end h ≤ length r + length s → length (r ++ take (field_end h - length r) s) ≡ field_end h
to_field h r s still there = omega (arith, length-append r (take (field_end h - length r) s), length-take-le (field_end h - length r) s (omega arith))

looked_sized : (h : Header) (seen r s : List ℕ) (behind : ℕ) (a : Aim) → length r < field_end h → field_end h ≤ length r + length s
    → take (length (r ++ take (field_end h - length r) s) - h.offset) seen ≡ drop h.offset (r ++ take (field_end h - length r) s)
    → adjusted (number_in_order h.little (take h.field seen)) h.adjust ≡ Some behind
    → AimsBehind h.strip h.max (field_end h) behind a → Looked h seen r s a
looked_sized h seen r s behind a still there kept is aims =
    let w : List ℕ = r ++ take (field_end h - length r) s in
    let size : length w ≡ field_end h = to_field h r s still there in
    looked_by h seen r s w behind a refl there (omega (arith, size))
    (ap (λ v. adjusted (number_in_order h.little v) h.adjust) (sym (said_kept h w seen size kept)) ∙ is) aims

looked_small : (h : Header) (seen r s : List ℕ) → length r < field_end h → field_end h ≤ length r + length s
    → take (length (r ++ take (field_end h - length r) s) - h.offset) seen ≡ drop h.offset (r ++ take (field_end h - length r) s)
    → adjusted (number_in_order h.little (take h.field seen)) h.adjust ≡ None
    → Looked h seen r s (Wrong TooSmall 0)
looked_small h seen r s still there kept is =
    let w : List ℕ = r ++ take (field_end h - length r) s in
    let size : length w ≡ field_end h = to_field h r s still there in
    let none : field_end h ≡ field_end h + 0 = omega arith in (
      there,
      head_said h w None (omega (arith, size))
          (ap (λ v. adjusted (number_in_order h.little v) h.adjust) (sym (said_kept h w seen size kept)) ∙ is) ∙ ap (λ n. Bad TooSmall n) none,
    )

-- what is told by bytes that begin with those of the field
told_by : (h : Header) (seen r s : List ℕ) (said : Option ℕ) (a : Aim) → length r < field_end h → field_end h ≤ length r + length s
    → take (length (r ++ take (field_end h - length r) s) - h.offset) seen ≡ drop h.offset (r ++ take (field_end h - length r) s)
    → adjusted (number_in_order h.little (take h.field seen)) h.adjust ≡ said → AimsBy h said a → Looked h seen r s a
told_by h seen r s None a still there kept is aims =
    let P : Aim → Type 0 = λ b. Looked h seen r s b in
    subst P (sym aims) (looked_small h seen r s still there kept is)
told_by h seen r s (Some behind) a still there kept is aims = looked_sized h seen r s behind a still there kept is aims

pub looked_kept : (h : Header) (seen r s : List ℕ) (value : ℕ) (a : Aim) → length r < field_end h → field_end h ≤ length r + length s
    → take (length (r ++ take (field_end h - length r) s) - h.offset) seen ≡ drop h.offset (r ++ take (field_end h - length r) s)
    → value ≡ number_in_order h.little (take h.field seen) → AimsBy h (adjusted value h.adjust) a → Looked h seen r s a
looked_kept h seen r s value a still there kept is aims =
    told_by h seen r s (adjusted value h.adjust) a still there kept (ap (λ v. adjusted v h.adjust) (sym is)) aims

-- once the field is there, it doesn't matter what was kept of it
looked_any : (h : Header) (seen other r s : List ℕ) (a : Aim) → field_end h ≤ length r + length s → Looked h seen r s a → Looked h other r s a
looked_any h seen other r s Short there looked = absurd (let e : ⊥ = omega (arith, there, looked.0) in e)
looked_any h seen other r s (Wrong kind over) there looked = looked
looked_any h seen other r s (At t) there looked = looked

-- a field that lies whole in the bytes that came
pub looked_there : (h : Header) (seen r s field : List ℕ) (value : ℕ) (a : Aim) → length r ≤ h.offset → 0 < h.field → field_end h ≤ length r + length s
    → field ≡ take (field_end h - length r - (h.offset - length r)) (drop (h.offset - length r) s)
    → value ≡ number_in_order h.little field → AimsBy h (adjusted value h.adjust) a → Looked h seen r s a
looked_there h seen r s field value a early some there is says aims =
    let n : ℕ = field_end h - length r in
    let w : List ℕ = r ++ take n s in
    let few : length (take n s) ≡ n = length-take-le n s (omega (arith, there)) in
    let all : h.offset - length r + (n - (h.offset - length r)) ≡ n = omega (arith, early) in
    let same : field ≡ drop h.offset w =
    is ∙ sym (drop-take (h.offset - length r) (n - (h.offset - length r)) s) ∙ ap (λ k. drop (h.offset - length r) (take k s)) all
    ∙ sym (drop_both h.offset r (take n s) ∙ ap (λ v. v ++ drop (h.offset - length r) (take n s)) (drop_of_length-le r early)) in
    let size : length field ≡ h.field = ap (λ v. length v) same ∙ length-drop h.offset w ∙ (let e : length w - h.offset ≡ h.field = omega (arith, length-append r (take n s), few, early) in e) in
    let whole : take h.field field ≡ field = take_all h.field field (omega (arith, size)) in
    looked_any h field seen r s a there (looked_kept h field r s value a (omega (arith, early, some)) there
    (ap (λ k. take k field) (let e : length w - h.offset ≡ h.field = omega (arith, length-append r (take n s), few, early) in e) ∙ whole ∙ same)
    (says ∙ ap (λ v. number_in_order h.little v) (sym whole)) aims)

-- the same with the numbers that were computed on the way
pub kept_by : (h : Header) (r s seen new part : List ℕ) (have n passed before at : ℕ) → length r ≡ have → n ≤ length s → before ≡ h.offset - have → passed ≡ min before n → at ≡ have - h.offset
    → take (have - h.offset) seen ≡ drop h.offset r → part ≡ take (n - passed) (drop passed s) → take (at + length part) new ≡ take at seen ++ part
    → take (length (r ++ take n s) - h.offset) new ≡ drop h.offset (r ++ take n s)
kept_by h r s seen new part have n passed before at size within b p a told is kept =
    let K : ℕ → Type 0 = λ k. take (k + length part) new ≡ take k seen ++ part in
    field_kept h r s seen new part have n passed size within (omega (arith, b, p)) told is (subst K a kept)
