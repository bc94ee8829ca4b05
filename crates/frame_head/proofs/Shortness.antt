-- Heads and last units that are no frame over a length, by the parts of a codec.
use Rattle.std.proofs.Common.{◌≡◌, ℕ, ◌+◌, ◌-◌, ◌^◌, ◌<◌, ◌≤◌, ℤ, Bool, true, false, List, [], ◌∷◌, ◌++◌, Option, Some, None, length, take, drop, nat_lt, nat_eq, if◌then◌else◌, All, refl, arith, subst, ltb-false, length-drop, length-take}
use Rattle.std.proofs.lemmas.List.{length-take-le}
use Rattle.std.proofs.lemmas.List.Elements.{All-drop, All-take}
use Rattle.std.specs.List.{ends_with}
use Rattle.frame_head.specs.declared.codecs.FaultKind.TheVariants.{TooLong, StripOver}
use Rattle.frame_head.specs.Numbers.{number_in_order, adjusted}
use Rattle.frame_head.specs.Endings.{longer, longest_ending, ended_or, first_ended}
use Rattle.frame_head.specs.Heads.{Head, More, Whole, Bad, FrameAt, FaultAt, sized, measured, length_head, terminated}
use Rattle.frame_head.specs.Longest.{most_in_field, longest_mark, longest_ended, longest_up_to, longest_length}
use Rattle.frame_head.specs.Bounds.{IsWithin}
use Rattle.frame_head.proofs.Fits.{field_within, end_within}

-- a head that is no frame of more than `n` bytes
abbrev pub IsShort : ℕ → Head → Type 0
IsShort n More = Unit {0}
IsShort n (Whole bytes used) = length bytes ≤ n
IsShort n (Bad kind used) = Unit {0}

sized_short_by : (a b x : Bool) (n t : ℕ) (c : List ℕ) → (a ≡ false → length c ≤ n) → IsShort n (if a then Bad TooLong t else if b then Bad StripOver t else if x then More else Whole c t)
sized_short_by true b x n t c within = tt
sized_short_by false true x n t c within = tt
sized_short_by false false true n t c within = tt
sized_short_by false false false n t c within = within refl

sized_short : (strip greatest n t : ℕ) (s : List ℕ) → (t ≤ greatest → t - strip ≤ n) → IsShort n (sized strip greatest t s)
sized_short strip greatest n t s within =
    sized_short_by (nat_lt greatest t) (nat_lt t strip) (nat_lt (length s) t) n t (drop strip (take t s))
    (λ e. omega (arith, within (ltb-false greatest t e), length-drop strip (take t s), length-take t s))

measured_short : (strip greatest e w v : ℕ) (adjust : ℤ) (o : Option ℕ) (s : List ℕ) → v ≤ w → adjusted v adjust ≡ o
    → IsShort (longest_up_to greatest strip (adjusted (w + e) adjust)) (measured strip greatest e o s)
measured_short strip greatest e w v adjust None s less is = tt
measured_short strip greatest e w v adjust (Some n) s less is =
    sized_short strip greatest (longest_up_to greatest strip (adjusted (w + e) adjust)) (n + e) s (λ within. end_within greatest strip v w e n adjust less is within)

waiting_short : (b : Bool) (n : ℕ) (h : Head) → (b ≡ false → IsShort n h) → IsShort n (if b then More else h)
waiting_short true n h short = tt
waiting_short false n h short = short refl

pub length_short : (field offset : ℕ) (adjust : ℤ) (strip : ℕ) (little : Bool) (greatest : ℕ) (s : List ℕ) → All (λ b. b < 256) s
    → IsShort (longest_length field offset adjust strip greatest) (length_head field offset adjust strip little greatest s)
length_short field offset adjust strip little greatest s bytes =
    let f = take field (drop offset s) in
    let held : number_in_order little (take field (drop offset s)) ≤ 256 ^ length (take field (drop offset s)) - 1 =
    field_within little (take field (drop offset s)) (All-take (λ b. b < 256) field (drop offset s) (All-drop (λ b. b < 256) offset s bytes)) in
    waiting_short (nat_lt (length s) (offset + field)) (longest_length field offset adjust strip greatest)
    (measured strip greatest (offset + field) (adjusted (number_in_order little f) adjust) s)
    (λ e.
    let there = ltb-false (length s) (offset + field) e in
    let whole : length (take field (drop offset s)) ≡ field = length-take-le field (drop offset s) (omega (arith, length-drop offset s)) in
    let P : ℕ → Type 0 = λ k. number_in_order little (take field (drop offset s)) ≤ 256 ^ k - 1 in
    measured_short strip greatest (offset + field) (most_in_field field) (number_in_order little f) adjust (adjusted (number_in_order little f) adjust) s (subst P whole held) refl)

-- an ending that is found is no longer than the longest
abbrev IsFound : List (List ℕ) → Option (List ℕ) → Type 0
IsFound endings None = Unit {0}
IsFound endings (Some m) = length m ≤ longest_mark endings

longer_by : (b : Bool) (m o : List ℕ) (ms : List (List ℕ)) → length o ≤ longest_mark ms → IsFound (m ∷ ms) (if b then Some o else Some m)
longer_by true m o ms found = omega arith
longer_by false m o ms found = omega arith

longer_found : (m : List ℕ) (ms : List (List ℕ)) (o : Option (List ℕ)) → IsFound ms o → IsFound (m ∷ ms) (longer m o)
longer_found m ms None found = omega arith
longer_found m ms (Some o) found = longer_by (nat_lt (length m) (length o)) m o ms found

later_found : (m : List ℕ) (ms : List (List ℕ)) (o : Option (List ℕ)) → IsFound ms o → IsFound (m ∷ ms) o
later_found m ms None found = tt
later_found m ms (Some o) found = omega arith

ending_by : (b : Bool) (m : List ℕ) (ms : List (List ℕ)) (o : Option (List ℕ)) → IsFound ms o → IsFound (m ∷ ms) (if b then longer m o else o)
ending_by true m ms o found = longer_found m ms o found
ending_by false m ms o found = later_found m ms o found

ending_found : (endings : List (List ℕ)) (s : List ℕ) → IsFound endings (longest_ending endings s)
ending_found [] s = tt
ending_found (m ∷ ms) s = ending_by (ends_with nat_eq s m) m ms (longest_ending ms s) (ending_found ms s)

abbrev pub IsEnded : List (List ℕ) → Option (List ℕ × List ℕ) → Type 0
IsEnded endings None = Unit {0}
IsEnded endings (Some (front, ending)) = length ending ≤ longest_mark endings

front_ended : (endings : List (List ℕ)) (front : List ℕ) (o : Option (List ℕ)) (found : Option (List ℕ × List ℕ)) → IsFound endings o → IsEnded endings found → IsEnded endings (ended_or front o found)
front_ended endings front None found here later = later
front_ended endings front (Some m) found here later = here

pub first_found : (endings : List (List ℕ)) (front s : List ℕ) → IsEnded endings (first_ended endings front s)
first_found endings front [] = tt
first_found endings front (x ∷ s) =
    front_ended endings (front ++ x ∷ []) (longest_ending endings (front ++ x ∷ [])) (first_ended endings (front ++ x ∷ []) s)
    (ending_found endings (front ++ x ∷ [])) (first_found endings (front ++ x ∷ []) s)

terminated_by : (a strip : Bool) (greatest : ℕ) (endings : List (List ℕ)) (front ending : List ℕ) → length ending ≤ longest_mark endings → nat_lt greatest (length (take (length front - length ending) front)) ≡ a
    → IsShort (longest_ended strip greatest endings) (if a then Bad TooLong (length front) else if strip then Whole (take (length front - length ending) front) (length front) else Whole front (length front))
terminated_by true strip greatest endings front ending found e = tt
terminated_by false true greatest endings front ending found e = ltb-false greatest (length (take (length front - length ending) front)) e
terminated_by false false greatest endings front ending found e =
    omega (arith, ltb-false greatest (length (take (length front - length ending) front)) e, length-take (length front - length ending) front)

pub terminated_short : (strip : Bool) (greatest : ℕ) (endings : List (List ℕ)) (o : Option (List ℕ × List ℕ)) → IsEnded endings o → IsShort (longest_ended strip greatest endings) (terminated strip greatest o)
terminated_short strip greatest endings None found = tt
terminated_short strip greatest endings (Some (front, ending)) found =
    terminated_by (nat_lt greatest (length (take (length front - length ending) front))) strip greatest endings front ending found refl

pub fixed_short : (b : Bool) (size : ℕ) (s : List ℕ) → IsShort size (if b then More else Whole (take size s) size)
fixed_short true size s = tt
fixed_short false size s = omega (arith, length-take size s)

pub line_short : (b strip : Bool) (greatest at : ℕ) (endings : List (List ℕ)) (s : List ℕ) → nat_lt greatest (length s) ≡ b → IsWithin (longest_ended strip greatest endings) (if b then FaultAt at TooLong else FrameAt at s)
line_short true strip greatest at endings s e = tt
line_short false true greatest at endings s e = ltb-false greatest (length s) e
line_short false false greatest at endings s e = omega (arith, ltb-false greatest (length s) e)
