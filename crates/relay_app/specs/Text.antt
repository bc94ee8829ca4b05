-- The report of `frames`.
use Rattle.std.specs.Prelude.{ℕ, List, [], ◌∷◌, ◌++◌, length, codes, decimal, flat_map}
use Rattle.hex.specs.Hex.{encode_lower}
use Rattle.frame_head.specs.declared.codecs.FaultKind.{FaultKind}
use Rattle.frame_head.specs.declared.codecs.FaultKind.TheVariants.{TooSmall, TooLong, StripOver, Cut, BadLine}
use Rattle.frame_head.specs.Heads.{FramingUnit, FrameAt, FaultAt}

-- bytes in lower-case hexadecimal, and a dash for none
abbrev pub hex_or_dash : List ℕ → List ℕ
hex_or_dash [] = codes "-"
hex_or_dash (x ∷ xs) = encode_lower (x ∷ xs)

abbrev pub kind_name : FaultKind → List ℕ
kind_name TooSmall = codes "TooSmall"
kind_name TooLong = codes "TooLong"
kind_name StripOver = codes "StripOver"
kind_name Cut = codes "Cut"
kind_name BadLine = codes "BadLine"

-- the line of a frame: `F AT LENGTH HEX`
abbrev pub frame_line : ℕ → List ℕ → List ℕ
frame_line at bytes =
    codes "F " ++ decimal at ++ codes " " ++ decimal (length bytes) ++ codes " " ++ hex_or_dash bytes ++ codes "\n"

-- the line of a fault: `X AT KIND`
abbrev pub fault_line : ℕ → FaultKind → List ℕ
fault_line at kind = codes "X " ++ decimal at ++ codes " " ++ kind_name kind ++ codes "\n"

abbrev pub unit_line : FramingUnit → List ℕ
unit_line (FrameAt at bytes) = frame_line at bytes
unit_line (FaultAt at kind) = fault_line at kind

abbrev pub unit_lines : List FramingUnit → List ℕ
unit_lines us = flat_map unit_line us

-- the last line: how many bytes were read
abbrev pub end_line : ℕ → List ℕ
end_line n = codes "end " ++ decimal n ++ codes "\n"
