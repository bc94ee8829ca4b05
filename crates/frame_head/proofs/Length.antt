-- The length codec: its heads stay, and use all that was asked for.
use Rattle.std.proofs.Common.{◌≡◌, ℕ, zero, suc, ◌+◌, ◌<◌, ◌≤◌, ℤ, Bool, true, false, List, [], ◌++◌, Option, Some, None, length, take, drop, nat_lt, if◌then◌else◌, refl, ap, ◌∙◌, arith, length-append, length-drop, ltb-false, le-ltb, lt-ltb}
use Rattle.std.proofs.lemmas.List.{drop-append-le, take-append-le}
use Rattle.frame_head.specs.declared.codecs.Codec.TheVariants.{Length}
use Rattle.frame_head.specs.declared.codecs.FaultKind.TheVariants.{TooLong, StripOver}
use Rattle.frame_head.specs.Numbers.{number_in_order, adjusted}
use Rattle.frame_head.specs.Checks.{length_fault}
use Rattle.frame_head.specs.Heads.{Head, More, Whole, Bad, UsesAtLeast, sized, measured, length_head}
use Rattle.frame_head.proofs.Steady.{Steady}

-- a length field that is passed has a byte
pub some_field : (field offset max : ℕ) → length_fault field offset max ≡ None → 0 < field
some_field zero offset max e = absurd (cc)
some_field (suc n) offset max e = omega arith

-- the field of a longer stream
pub same_field : (field offset : ℕ) (s r : List ℕ) → offset + field ≤ length s → take field (drop offset (s ++ r)) ≡ take field (drop offset s)
same_field field offset s r within =
    let inside : field ≤ length (drop offset s) = omega (arith, length-drop offset s) in
    ap (λ w. take field w) (drop-append-le offset s r (omega arith)) ∙ take-append-le field (drop offset s) r inside

sized_by : (a b x y : Bool) (t strip : ℕ) (s z : List ℕ) → (x ≡ false → y ≡ false) → (x ≡ false → take t z ≡ take t s)
    → ((if a then Bad TooLong t else if b then Bad StripOver t else if x then More else Whole (drop strip (take t s)) t) ≡ More → ⊥)
    → (if a then Bad TooLong t else if b then Bad StripOver t else if y then More else Whole (drop strip (take t z)) t)
    ≡ (if a then Bad TooLong t else if b then Bad StripOver t else if x then More else Whole (drop strip (take t s)) t)
sized_by true b x y t strip s z long same not = refl
sized_by false true x y t strip s z long same not = refl
sized_by false false true y t strip s z long same not = absurd (not refl)
sized_by false false false y t strip s z long same not = rw (long refl, same refl) refl

sized_stays : (strip max t : ℕ) (s r : List ℕ) → (sized strip max t s ≡ More → ⊥) → sized strip max t (s ++ r) ≡ sized strip max t s
sized_stays strip max t s r not =
    sized_by (nat_lt max t) (nat_lt t strip) (nat_lt (length s) t) (nat_lt (length (s ++ r)) t) t strip s (s ++ r)
    (λ e. le-ltb (length (s ++ r)) t (omega (arith, ltb-false (length s) t e, length-append s r)))
    (λ e. take-append-le t s r (ltb-false (length s) t e)) not

measured_stays : (strip max e : ℕ) (n : Option ℕ) (s r : List ℕ) → (measured strip max e n s ≡ More → ⊥) → measured strip max e n (s ++ r) ≡ measured strip max e n s
measured_stays strip max e None s r not = refl
measured_stays strip max e (Some n) s r not = sized_stays strip max (n + e) s r not

head_by : (x y : Bool) (m w : Head) → (x ≡ false → y ≡ false) → (x ≡ false → (m ≡ More → ⊥) → w ≡ m) → ((if x then More else m) ≡ More → ⊥) → (if y then More else w) ≡ (if x then More else m)
head_by true y m w long same not = absurd (not refl)
head_by false y m w long same not = rw (long refl) (same refl not)

length_head_stays : (field offset : ℕ) (adjust : ℤ) (strip : ℕ) (little : Bool) (max : ℕ) (s r : List ℕ)
    → (length_head field offset adjust strip little max s ≡ More → ⊥) → length_head field offset adjust strip little max (s ++ r) ≡ length_head field offset adjust strip little max s
length_head_stays field offset adjust strip little max s r not =
    head_by (nat_lt (length s) (offset + field)) (nat_lt (length (s ++ r)) (offset + field))
    (measured strip max (offset + field) (adjusted (number_in_order little (take field (drop offset s))) adjust) s)
    (measured strip max (offset + field) (adjusted (number_in_order little (take field (drop offset (s ++ r)))) adjust) (s ++ r))
    (λ e. le-ltb (length (s ++ r)) (offset + field) (omega (arith, ltb-false (length s) (offset + field) e, length-append s r)))
    (λ e more. ap (λ w. measured strip max (offset + field) (adjusted (number_in_order little w) adjust) (s ++ r)) (same_field field offset s r (ltb-false (length s) (offset + field) e))
    ∙ measured_stays strip max (offset + field) (adjusted (number_in_order little (take field (drop offset s))) adjust) s r more)
    not

-- a frame that ends at `t` uses so much
sized_uses_by : (a b x : Bool) (k t : ℕ) (c : List ℕ) → k ≤ t → UsesAtLeast k (if a then Bad TooLong t else if b then Bad StripOver t else if x then More else Whole c t)
sized_uses_by true b x k t c within = within
sized_uses_by false true x k t c within = within
sized_uses_by false false true k t c within = tt
sized_uses_by false false false k t c within = within

pub sized_uses : (strip max k t : ℕ) (s : List ℕ) → k ≤ t → UsesAtLeast k (sized strip max t s)
sized_uses strip max k t s within = sized_uses_by (nat_lt max t) (nat_lt t strip) (nat_lt (length s) t) k t (drop strip (take t s)) within

measured_uses : (strip max k e : ℕ) (n : Option ℕ) (s : List ℕ) → k ≤ e → UsesAtLeast k (measured strip max e n s)
measured_uses strip max k e None s within = within
measured_uses strip max k e (Some n) s within = sized_uses strip max k (n + e) s (omega arith)

uses_by : (b : Bool) (k : ℕ) (m : Head) → UsesAtLeast k m → UsesAtLeast k (if b then More else m)
uses_by true k m uses = tt
uses_by false k m uses = uses

-- a head uses the bytes to the end of its field at least
pub uses_field : (field offset : ℕ) (adjust : ℤ) (strip : ℕ) (little : Bool) (max k : ℕ) (s : List ℕ) → k ≤ offset + field → UsesAtLeast k (length_head field offset adjust strip little max s)
uses_field field offset adjust strip little max k s within =
    uses_by (nat_lt (length s) (offset + field)) k (measured strip max (offset + field) (adjusted (number_in_order little (take field (drop offset s))) adjust) s)
    (measured_uses strip max k (offset + field) (adjusted (number_in_order little (take field (drop offset s))) adjust) s within)

-- a head whose field is there uses what the field says
pub uses_frame : (field offset : ℕ) (adjust : ℤ) (strip : ℕ) (little : Bool) (max k n : ℕ) (s r : List ℕ) → offset + field ≤ length s
    → adjusted (number_in_order little (take field (drop offset s))) adjust ≡ Some n → k ≤ n + (offset + field)
    → UsesAtLeast k (length_head field offset adjust strip little max (s ++ r))
uses_frame field offset adjust strip little max k n s r there is within =
    uses_by (nat_lt (length (s ++ r)) (offset + field)) k (measured strip max (offset + field) (adjusted (number_in_order little (take field (drop offset (s ++ r)))) adjust) (s ++ r))
    (rw (same_field field offset s r there, is) (sized_uses strip max k (n + (offset + field)) (s ++ r) within))

opens_by : (field offset : ℕ) (adjust : ℤ) (strip : ℕ) (little : Bool) (max : ℕ) → 0 < field → length_head field offset adjust strip little max [] ≡ More
opens_by field offset adjust strip little max some =
    let e : nat_lt 0 (offset + field) ≡ true = lt-ltb 0 (offset + field) (omega arith) in
    ap (λ b. if b then More else measured strip max (offset + field) (adjusted (number_in_order little (take field (drop offset []))) adjust) []) e

-- a length codec that is passed
pub length_steady : (field offset : ℕ) (adjust : ℤ) (strip : ℕ) (little : Bool) (max : ℕ) → length_fault field offset max ≡ None → Steady (Length field offset adjust strip little max)
length_steady field offset adjust strip little max checked =
    let some : 0 < field = some_field field offset max checked in
    record {
      stable = λ s r not. length_head_stays field offset adjust strip little max s r not;
      advances = λ s. uses_field field offset adjust strip little max 1 s (omega arith);
      opens = opens_by field offset adjust strip little max some;
    }
