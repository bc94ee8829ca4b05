-- Scans of units that end with an ending.
use Rattle.std.proofs.Common.{◌≡◌, ℕ, ◌+◌, ◌-◌, ◌<◌, ◌≤◌, Bool, true, false, List, [], ◌++◌, Option, Some, None, length, take, nat_lt, if◌then◌else◌, refl, ap, sym, ◌∙◌, subst, arith, length-append, length-take-le, take_all, lt-ltb}
use Rattle.std.specs.List.{Contains}
use Rattle.frame_head.specs.declared.codecs.Codec.{Codec}
use Rattle.frame_head.specs.declared.codecs.FaultKind.TheVariants.{TooLong}
use Rattle.frame_head.specs.Heads.{Head, More, Whole, Bad, terminated}
use Rattle.frame_head.specs.Codecs.{head, last_unit}
use Rattle.frame_head.specs.Endings.{first_ended}
use Rattle.frame_head.proofs.Ended.{none_then, found_longer}
use Rattle.frame_rule.specs.declared.scanner.Scan.TheVariants.{Frame, Fault}
use Rattle.frame_rule.specs.declared.endings.Ending.{Ending}
use Rattle.frame_rule.specs.Scanning.{IsNoFrame, IsFault, IsHopeless, Scanned, inner}
use Rattle.frame_rule.specs.Endings.{Unended, FindsEnding, scan_of}
use Rattle.frame_rule.proofs.Seeks.{found_ending}

-- the codec's units end with one of these endings
abbrev pub EndsBy : Codec → List (List ℕ) → Bool → ℕ → Type 0
EndsBy c E strip max = (s : List ℕ) → head c s ≡ terminated strip max (first_ended E [] s)

-- a unit with its ending
judged_by : (long strip : Bool) (n size : ℕ) (front : List ℕ) (c : Codec) (r s : List ℕ) (saw : List ℕ → Type 0) → front ≡ r ++ take n s → length front ≡ length r + n → n ≤ length s → size ≤ length r + n → saw []
    → head c front ≡ (if long then Bad TooLong (length front) else if strip then Whole (take (length front - size) front) (length front) else Whole front (length front))
    → Scanned c r s (if long then Fault TooLong n 0 else Frame n 0 (if strip then size else 0)) saw
judged_by true strip n size front c r s saw same long within fits fresh is =
    let all : length front ≡ length r + n + 0 = omega arith in
    (within, ap (λ w. head c w) (sym same) ∙ is ∙ ap (λ k. Bad TooLong k) all, fresh)
judged_by false true n size front c r s saw same long within fits fresh is =
    (within, omega arith, ap (λ w. head c w) (sym same) ∙ is ∙ ap (λ k. Whole (take (length front - size) front) k) long ∙ ap (λ w. Whole (inner 0 size w) (length r + n)) same, fresh)
judged_by false false n size front c r s saw same long within fits fresh is =
    let whole : front ≡ inner 0 0 front = sym (take_all (length front - 0) front (omega arith)) in
    (within, omega arith, ap (λ w. head c w) (sym same) ∙ is ∙ ap (λ w. Whole w (length front)) whole ∙ ap (λ k. Whole (inner 0 0 front) k) long ∙ ap (λ w. Whole (inner 0 0 w) (length r + n)) same, fresh)

-- an ending was found
pub scanned_at : (c : Codec) (E : List (List ℕ)) (strip : Bool) (max : ℕ) → EndsBy c E strip max → (r s : List ℕ) (have : ℕ) (e : Ending) (saw : List ℕ → Type 0) → length r ≡ have → FindsEnding E r s (Some e) → saw []
    → Scanned c r s (scan_of strip max have e) saw
scanned_at c E strip max by r s have e saw size found fresh =
    let front = r ++ take (e.place + 1) s in
    let ending = found.2.0 in
    let long : length front ≡ length r + (e.place + 1) = length-append r (take (e.place + 1) s) ∙ ap (λ n. length r + n) (length-take-le (e.place + 1) s (omega (arith, found.0))) in
    let k : length front - length ending ≡ length front - e.size = ap (λ n. length front - n) found.2.1 in
    let content : length (take (length front - length ending) front) ≡ have + (e.place + 1) - e.size = length-take-le (length front - length ending) front (omega arith) ∙ omega (arith, long, size, k) in
    let is : head c front ≡ terminated strip max (Some (front, ending)) = by front ∙ ap (λ o. terminated strip max o) found.2.2 in
    judged_by (nat_lt max (have + (e.place + 1) - e.size)) strip (e.place + 1) e.size front c r s saw refl long (omega (arith, found.0)) (omega (arith, found.1)) fresh
    (is
    ∙ ap (λ b. if b then Bad TooLong (length front) else if strip then Whole (take (length front - length ending) front) (length front) else Whole front (length front)) (ap (λ n. nat_lt max n) content)
    ∙ ap (λ n. if nat_lt max (have + (e.place + 1) - e.size) then Bad TooLong (length front) else if strip then Whole (take n front) (length front) else Whole front (length front)) k)

-- none was found
pub open_head : (c : Codec) (E : List (List ℕ)) (strip : Bool) (max : ℕ) → EndsBy c E strip max → (s : List ℕ) → Unended E s → head c s ≡ More
open_head c E strip max by s none = by s ∙ ap (λ o. terminated strip max o) none

long_by : (long strip : Bool) (n : ℕ) (content front : List ℕ) → long ≡ true → IsNoFrame (if long then Bad TooLong n else if strip then Whole content n else Whole front n)
long_by true strip n content front is = tt
long_by false strip n content front is = absurd (cc)

no_frame_by : (strip : Bool) (max : ℕ) (o : Option (List ℕ × List ℕ)) → ((p : List ℕ × List ℕ) → o ≡ Some p → max < length p.0 - length p.1) → IsNoFrame (terminated strip max o)
no_frame_by strip max None long = tt
no_frame_by strip max (Some p) long =
    let size : length (take (length p.0 - length p.1) p.0) ≡ length p.0 - length p.1 = length-take-le (length p.0 - length p.1) p.0 (omega arith) in
    long_by (nat_lt max (length (take (length p.0 - length p.1) p.0))) strip (length p.0) (take (length p.0 - length p.1) p.0) p.0
    (lt-ltb max (length (take (length p.0 - length p.1) p.0)) (omega (arith, size, long p refl)))

-- open bytes that are longer than a frame and its ending can be
pub hopeless : (c : Codec) (E : List (List ℕ)) (strip : Bool) (max most : ℕ) → EndsBy c E strip max → ((m : List ℕ) → Contains E m → 0 < length m) → ((m : List ℕ) → Contains E m → length m ≤ most) → 0 < most
    → ((s : List ℕ) (at : ℕ) → max < length s → IsFault (last_unit c at s)) → (r : List ℕ) → Unended E r → max + most ≤ length r → IsHopeless c r
hopeless c E strip max most by some sizes least last r none long = λ t.
    let N : Head → Type 0 = IsNoFrame in
    let behind : first_ended E [] (r ++ t) ≡ first_ended E r t = none_then E r t none in (
      subst N (sym (by (r ++ t)))
          (no_frame_by strip max (first_ended E [] (r ++ t)) (λ p is.
          omega (arith, sizes p.1 (found_ending E some (r ++ t) p is).among, found_longer E r t p (sym behind ∙ is)))),
      λ at. last (r ++ t) at (omega (arith, length-append r t)),
    )
