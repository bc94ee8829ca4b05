-- No frame is longer than its codec's longest.
use Rattle.std.proofs.Common.{ℕ, zero, suc, ◌+◌, ◌-◌, ◌<◌, List, [], ◌∷◌, length, drop, All, arith}
use Rattle.std.proofs.lemmas.List.Elements.{All-cons, All-drop, All-append}
use Rattle.frame_head.specs.declared.codecs.Codec.{Codec}
use Rattle.frame_head.specs.Heads.{Head, More, Whole, Bad, FramingUnit, FrameAt, FaultAt}
use Rattle.frame_head.specs.Codecs.{head, last_unit, longest_of}
use Rattle.frame_head.specs.Units.{unit_and, units_from, units, rest, units_of_end, ended}
use Rattle.frame_head.specs.Bounds.{IsWithin}
use Rattle.frame_head.proofs.Shortness.{IsShort}
use Rattle.frame_head.proofs.Cases.{head_short, last_short}

none_within : (n : ℕ) → All (IsWithin n) []
none_within n = λ k d within. absurd (omega arith)

unit_short : (n at : ℕ) (h : Head) (behind : ℕ → List FramingUnit) → IsShort n h → ((u : ℕ) → All (IsWithin n) (behind u)) → All (IsWithin n) (unit_and at h behind)
unit_short n at More behind short later = none_within n
unit_short n at (Whole bytes used) behind short later = All-cons (IsWithin n) (FrameAt at bytes) (behind used) short (later used)
unit_short n at (Bad kind used) behind short later = All-cons (IsWithin n) (FaultAt at kind) (behind used) tt (later used)

units_short : (c : Codec) (m at : ℕ) (s : List ℕ) → All (λ b. b < 256) s → All (IsWithin (longest_of c)) (units_from c m at s)
units_short c zero at s bytes = none_within (longest_of c)
units_short c (suc m) at s bytes =
    unit_short (longest_of c) at (head c s) (λ used. units_from c m (at + used) (drop used s)) (head_short c s bytes)
    (λ u. units_short c m (at + u) (drop u s) (All-drop (λ b. b < 256) u s bytes))

end_short : (c : Codec) (at : ℕ) (s : List ℕ) → All (IsWithin (longest_of c)) (units_of_end c at s)
end_short c at [] = none_within (longest_of c)
end_short c at (x ∷ s) = All-cons (IsWithin (longest_of c)) (last_unit c at (x ∷ s)) [] (last_short c at (x ∷ s)) (none_within (longest_of c))

pub bounded_frames : (c : Codec) (s : List ℕ) → All (λ b. b < 256) s → All (IsWithin (longest_of c)) (units c s) × All (IsWithin (longest_of c)) (ended c s)
bounded_frames c s bytes = (
  units_short c (length s) 0 s bytes,
  All-append (IsWithin (longest_of c)) (units c s) (units_of_end c (length s - length (rest c s)) (rest c s)) (units_short c (length s) 0 s bytes) (end_short c (length s - length (rest c s)) (rest c s)),
)
