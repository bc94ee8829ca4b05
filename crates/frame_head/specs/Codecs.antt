-- The table of codecs: all that goes by codec, a case for each.
use Rattle.std.specs.Prelude.{ℕ, ◌+◌, List, [], Option, length, take, nat_lt, if◌then◌else◌}
use Rattle.frame_head.specs.declared.codecs.Codec.{Codec}
use Rattle.frame_head.specs.declared.codecs.Codec.TheVariants.{Length, Line, Delim, Fixed}
use Rattle.frame_head.specs.declared.codecs.FaultKind.TheVariants.{TooLong, Cut}
use Rattle.frame_head.specs.declared.checks.CodecFault.{CodecFault}
use Rattle.frame_head.specs.Endings.{line_endings, first_ended}
use Rattle.frame_head.specs.Heads.{Head, More, Whole, FramingUnit, FrameAt, FaultAt, length_head, terminated}
use Rattle.frame_head.specs.Checks.{length_fault, size_fault, marks_fault}
use Rattle.frame_head.specs.Longest.{longest_length, longest_ended}

-- the first unit of a stream
abbrev pub head : Codec → List ℕ → Head
head (Length field offset adjust strip little max) s = length_head field offset adjust strip little max s
head (Line ending strip max) s = terminated strip max (first_ended (line_endings ending) [] s)
head (Delim list strip max) s = terminated strip max (first_ended list [] s)
head (Fixed size) s = if nat_lt (length s) size then More else Whole (take size s) size

-- the last unit of a stream that ends with bytes which are no unit yet
abbrev pub last_unit : Codec → ℕ → List ℕ → FramingUnit
last_unit (Length field offset adjust strip little max) at s = FaultAt at Cut
last_unit (Line ending strip max) at s = if nat_lt max (length s) then FaultAt at TooLong else FrameAt at s
last_unit (Delim list strip max) at s = FaultAt at Cut
last_unit (Fixed size) at s = FaultAt at Cut

-- why a codec is refused, if it is
abbrev pub fault_of : Codec → Option CodecFault
fault_of (Length field offset adjust strip little max) = length_fault field offset max
fault_of (Line ending strip max) = size_fault max
fault_of (Delim list strip max) = marks_fault list max
fault_of (Fixed size) = size_fault size

-- the length of the longest frame that a codec can give
abbrev pub longest_of : Codec → ℕ
longest_of (Length field offset adjust strip little max) = longest_length field offset adjust strip max
longest_of (Line ending strip max) = longest_ended strip max (line_endings ending)
longest_of (Delim list strip max) = longest_ended strip max list
longest_of (Fixed size) = size

-- how many bytes of an open unit are kept at most
abbrev pub most_kept : Codec → ℕ
most_kept (Length field offset adjust strip little max) = max
most_kept (Line ending strip max) = max + 2
most_kept (Delim list strip max) = max + 64
most_kept (Fixed size) = size

-- which codec it is: what a scanner of that codec takes
abbrev pub IsLength : Codec → Type 0
IsLength (Length field offset adjust strip little max) = Unit {0}
IsLength _ = ⊥

abbrev pub IsLine : Codec → Type 0
IsLine (Line ending strip max) = Unit {0}
IsLine _ = ⊥

abbrev pub IsDelim : Codec → Type 0
IsDelim (Delim list strip max) = Unit {0}
IsDelim _ = ⊥

abbrev pub IsFixed : Codec → Type 0
IsFixed (Fixed size) = Unit {0}
IsFixed _ = ⊥
