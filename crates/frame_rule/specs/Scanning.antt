-- What a scan tells of open bytes and those that come behind them.
use Rattle.std.specs.Prelude.{◌≡◌, ℕ, ◌+◌, ◌-◌, ◌≤◌, List, [], ◌++◌, Option, Some, None, length, take, drop}
use Rattle.frame_head.specs.declared.codecs.Codec.{Codec}
use Rattle.frame_head.specs.declared.codecs.FaultKind.{FaultKind}
use Rattle.frame_head.specs.Heads.{Head, More, Whole, Bad, FramingUnit, FrameAt, FaultAt}
use Rattle.frame_head.specs.Codecs.{head, last_unit, most_kept}
use Rattle.frame_rule.specs.declared.scanner.Scan.{Scan}
use Rattle.frame_rule.specs.declared.scanner.Scan.TheVariants.{Open, Hopeless, Frame, Fault}

-- a list without its first `front` and its last `back`
abbrev pub inner : ℕ → ℕ → List ℕ → List ℕ
inner front back s = drop front (take (length s - back) s)

-- a head that is no frame
abbrev pub IsNoFrame : Head → Type 0
IsNoFrame More = Unit {0}
IsNoFrame (Whole bytes used) = ⊥
IsNoFrame (Bad kind used) = Unit {0}

abbrev pub IsFault : FramingUnit → Type 0
IsFault (FrameAt at bytes) = ⊥
IsFault (FaultAt at kind) = Unit {0}

-- whatever follows open bytes, and wherever the stream ends, they begin no frame
abbrev pub IsHopeless : Codec → List ℕ → Type 0
IsHopeless c r = (t : List ℕ) → IsNoFrame (head c (r ++ t)) × ((at : ℕ) → IsFault (last_unit c at (r ++ t)))

-- a scan of `s` behind the open bytes `r`, and which open bytes the scanner has seen then
abbrev pub Scanned : Codec → List ℕ → List ℕ → Scan → (List ℕ → Type 0) → Type 0
Scanned c r s Open saw = (head c (r ++ s) ≡ More) × (length r + length s ≤ most_kept c) × saw (r ++ s)
Scanned c r s Hopeless saw = (head c (r ++ s) ≡ More) × IsHopeless c (r ++ s) × saw (r ++ s)
Scanned c r s (Frame used front back) saw =
    (used ≤ length s) × (front + back ≤ length r + used)
    × (head c (r ++ take used s) ≡ Whole (inner front back (r ++ take used s)) (length r + used)) × saw []
Scanned c r s (Fault kind used over) saw =
    (used ≤ length s) × (head c (r ++ take used s) ≡ Bad kind (length r + used + over)) × saw []

-- what the end makes of open bytes: a frame of them, or a fault
abbrev pub last_of : ℕ → List ℕ → Option FaultKind → FramingUnit
last_of at r None = FrameAt at r
last_of at r (Some kind) = FaultAt at kind
