-- The frames and faults of a stream.
use Rattle.std.specs.Prelude.{ℕ, zero, suc, ◌+◌, ◌-◌, List, [], ◌∷◌, ◌++◌, length, drop}
use Rattle.frame_head.specs.declared.codecs.Codec.{Codec}
use Rattle.frame_head.specs.Heads.{Head, More, Whole, Bad, FramingUnit, FrameAt, FaultAt}
use Rattle.frame_head.specs.Codecs.{head, last_unit}

-- the unit of a head at the offset `at`, and the units behind what it used
abbrev pub unit_and : ℕ → Head → (ℕ → List FramingUnit) → List FramingUnit
unit_and at More behind = []
unit_and at (Whole bytes used) behind = FrameAt at bytes ∷ behind used
unit_and at (Bad kind used) behind = FaultAt at kind ∷ behind used

-- at most `n` units of `s`, which stands at the offset `at`
abbrev pub units_from : Codec → ℕ → ℕ → List ℕ → List FramingUnit
units_from codec zero at s = []
units_from codec (suc n) at s = unit_and at (head codec s) (λ used. units_from codec n (at + used) (drop used s))

-- the units of a stream: each uses a byte at least
abbrev pub units : Codec → List ℕ → List FramingUnit
units codec s = units_from codec (length s) 0 s

-- what is left behind a head of `s`
abbrev pub left_by : List ℕ → Head → (ℕ → List ℕ) → List ℕ
left_by s More behind = s
left_by s (Whole bytes used) behind = behind used
left_by s (Bad kind used) behind = behind used

-- what stands behind at most `n` units of `s`
abbrev pub rest_after : Codec → ℕ → List ℕ → List ℕ
rest_after codec zero s = s
rest_after codec (suc n) s = left_by s (head codec s) (λ used. rest_after codec n (drop used s))

-- what of a stream stands behind all its units
abbrev pub rest : Codec → List ℕ → List ℕ
rest codec s = rest_after codec (length s) s

-- how many bytes behind its end a head uses, where the bytes from the place `used` on use so many as `behind` says
abbrev pub overrun_by : List ℕ → Head → (ℕ → ℕ) → ℕ
overrun_by s More behind = 0
overrun_by s (Whole bytes used) behind = (used - length s) + behind used
overrun_by s (Bad kind used) behind = (used - length s) + behind used

-- how many bytes behind the end of `s` at most `n` units of it use
abbrev pub overrun_after : Codec → ℕ → List ℕ → ℕ
overrun_after codec zero s = 0
overrun_after codec (suc n) s = overrun_by s (head codec s) (λ used. overrun_after codec n (drop used s))

-- how many bytes behind the end of a stream its last fault uses
abbrev pub overrun : Codec → List ℕ → ℕ
overrun codec s = overrun_after codec (length s) s

-- what the end of a stream adds, where `s` is its rest and stands at the offset `at`
abbrev pub units_of_end : Codec → ℕ → List ℕ → List FramingUnit
units_of_end codec at [] = []
units_of_end codec at (x ∷ s) = last_unit codec at (x ∷ s) ∷ []

-- the units of a stream that is at its end
abbrev pub ended : Codec → List ℕ → List FramingUnit
ended codec s = units codec s ++ units_of_end codec (length s - length (rest codec s)) (rest codec s)
