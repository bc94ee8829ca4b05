-- Units that end with an ending.
use Rattle.std.specs.Prelude.{◌≡◌, ℕ, ◌+◌, ◌-◌, ◌<◌, ◌≤◌, Bool, List, [], ◌++◌, Option, Some, None, length, take, nat_lt, if◌then◌else◌}
use Rattle.frame_head.specs.declared.codecs.FaultKind.TheVariants.{TooLong}
use Rattle.frame_head.specs.Endings.{first_ended}
use Rattle.frame_rule.specs.declared.scanner.Scan.{Scan}
use Rattle.frame_rule.specs.declared.scanner.Scan.TheVariants.{Frame, Fault}
use Rattle.frame_rule.specs.declared.endings.Ending.{Ending}

-- no front of `s` ends with one of the endings
abbrev pub Unended : List (List ℕ) → List ℕ → Type 0
Unended endings s = first_ended endings [] s ≡ None

-- the first ending of `r ++ s` has its last byte at this place of `s`, or there is none
abbrev pub FindsEnding : List (List ℕ) → List ℕ → List ℕ → Option Ending → Type 0
FindsEnding endings r s None = Unended endings (r ++ s)
FindsEnding endings r s (Some e) =
    let front = r ++ take (e.place + 1) s in
    (e.place < length s) × (e.size ≤ length r + e.place + 1)
    × ((ending : List ℕ) × (length ending ≡ e.size) × (first_ended endings [] front ≡ Some (front, ending)))

-- what a unit of `have` open bytes and those up to its ending is
abbrev pub scan_of : Bool → ℕ → ℕ → Ending → Scan
scan_of strip max have e =
    if nat_lt max (have + (e.place + 1) - e.size) then Fault TooLong (e.place + 1) 0
    else Frame (e.place + 1) 0 (if strip then e.size else 0)
