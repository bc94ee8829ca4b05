-- What a scan for delimiters tells.
use Rattle.std.proofs.Common.{◌≡◌, ℕ, ◌+◌, ◌-◌, ◌<◌, ◌≤◌, Bool, List, [], ◌++◌, None, length, refl, ap, sym, ◌∙◌, subst, arith, length-append}
use Rattle.std.proofs.Math.Seq.{drop-nil}
use Rattle.frame_head.specs.declared.codecs.Codec.TheVariants.{Delim}
use Rattle.frame_head.specs.Codecs.{fault_of}
use Rattle.frame_rule.specs.declared.scanner.Scan.TheVariants.{Open, Hopeless}
use Rattle.frame_rule.specs.Scanning.{Scanned}
use Rattle.frame_rule.specs.Endings.{Unended}
use Rattle.frame_rule.proofs.Terminated.{open_head, hopeless}
use Rattle.frame_delim.specs.Tails.{Saw, Tells, last_bytes}
use Rattle.frame_delim.proofs.Ends.{last_tell}
use Rattle.frame_delim.proofs.Keeps.{last_of_last}
use Rattle.frame_delim.proofs.Sizes.{passed}

-- the tail of what was seen tells which delimiter ends behind it
pub tail_tells : (list : List (List ℕ)) (longest : ℕ) (tail bytes r : List ℕ) → Saw list longest tail r → bytes ≡ tail → Tells list bytes r
tail_tells list longest tail bytes r saw same =
    let P : List ℕ → Type 0 = λ w. Tells list w r in
    subst P (sym (same ∙ saw.4)) (last_tell list longest r saw.0 saw.1)

-- nothing was seen
pub saw_nothing : (list : List (List ℕ)) (longest : ℕ) (tail old r : List ℕ) → Saw list longest old r → tail ≡ [] → Saw list longest tail []
saw_nothing list longest tail old r saw none = (saw.0, saw.1, saw.2, refl, none ∙ sym (drop-nil (0 - (longest - 1))))

-- more was seen
pub saw_more : (list : List (List ℕ)) (longest : ℕ) (old tail r s : List ℕ) → Saw list longest old r → Unended list (r ++ s) → tail ≡ last_bytes (longest - 1) (old ++ s) → Saw list longest tail (r ++ s)
saw_more list longest old tail r s saw none is =
    (saw.0, saw.1, saw.2, none, is ∙ ap (λ w. last_bytes (longest - 1) (w ++ s)) saw.4 ∙ last_of_last (longest - 1) r s)

-- no delimiter ends in what came, and a frame may still come
pub goes_on : (list : List (List ℕ)) (strip : Bool) (max longest have : ℕ) (old tail r s : List ℕ) → fault_of (Delim list strip max) ≡ None → length r ≡ have → Saw list longest old r → Unended list (r ++ s)
    → tail ≡ last_bytes (longest - 1) (old ++ s) → have + length s < max + longest
    → Scanned (Delim list strip max) r s Open (λ w. (fault_of (Delim list strip max) ≡ None) × Saw list longest tail w)
goes_on list strip max longest have old tail r s checked size saw none is short =
    (open_head (Delim list strip max) list strip max (λ w. refl) (r ++ s) none, omega (arith, saw.2), (checked, saw_more list longest old tail r s saw none is))

-- no delimiter ends in what came, and what stands before the next one is too long
pub no_hope : (list : List (List ℕ)) (strip : Bool) (max longest have : ℕ) (old tail r s : List ℕ) → fault_of (Delim list strip max) ≡ None → length r ≡ have → Saw list longest old r → Unended list (r ++ s)
    → tail ≡ last_bytes (longest - 1) (old ++ s) → max + longest ≤ have + length s
    → Scanned (Delim list strip max) r s Hopeless (λ w. (fault_of (Delim list strip max) ≡ None) × Saw list longest tail w)
no_hope list strip max longest have old tail r s checked size saw none is long = (
  open_head (Delim list strip max) list strip max (λ w. refl) (r ++ s) none,
  hopeless (Delim list strip max) list strip max longest (λ w. refl) (passed list max checked).some saw.0 saw.1 (λ t at long. tt) (r ++ s) none (omega (arith, length-append r s)),
  (checked, saw_more list longest old tail r s saw none is),
)
