-- The proofs that go by codec, a case for each.
use Rattle.std.proofs.Common.{◌≡◌, ℕ, ◌<◌, List, [], None, length, nat_lt, All, refl}
use Rattle.frame_head.specs.declared.codecs.Codec.{Codec}
use Rattle.frame_head.specs.declared.codecs.Codec.TheVariants.{Length, Line, Delim, Fixed}
use Rattle.frame_head.specs.Endings.{line_endings, first_ended}
use Rattle.frame_head.specs.Codecs.{head, last_unit, fault_of, longest_of}
use Rattle.frame_head.specs.Bounds.{IsWithin}
use Rattle.frame_head.proofs.Steady.{Steady}
use Rattle.frame_head.proofs.Length.{length_steady}
use Rattle.frame_head.proofs.Ended.{line_steady, delim_steady}
use Rattle.frame_head.proofs.Fixed.{some_size, fixed_steady}
use Rattle.frame_head.proofs.Shortness.{IsShort, length_short, terminated_short, first_found, fixed_short, line_short}

-- the heads of a codec that is passed stay
pub passed_steady : (c : Codec) → fault_of c ≡ None → Steady c
passed_steady (Length field offset adjust strip little max) checked = length_steady field offset adjust strip little max checked
passed_steady (Line ending strip max) checked = line_steady ending strip max
passed_steady (Delim list strip max) checked = delim_steady list strip max
passed_steady (Fixed size) checked = fixed_steady size (some_size size checked)

-- no head is a frame over the codec's longest
pub head_short : (c : Codec) (s : List ℕ) → All (λ b. b < 256) s → IsShort (longest_of c) (head c s)
head_short (Length field offset adjust strip little greatest) s bytes = length_short field offset adjust strip little greatest s bytes
head_short (Line ending strip greatest) s bytes = terminated_short strip greatest (line_endings ending) (first_ended (line_endings ending) [] s) (first_found (line_endings ending) [] s)
head_short (Delim list strip greatest) s bytes = terminated_short strip greatest list (first_ended list [] s) (first_found list [] s)
head_short (Fixed size) s bytes = fixed_short (nat_lt (length s) size) size s

-- no last unit is a frame over the codec's longest
pub last_short : (c : Codec) (at : ℕ) (s : List ℕ) → IsWithin (longest_of c) (last_unit c at s)
last_short (Length field offset adjust strip little greatest) at s = tt
last_short (Line ending strip greatest) at s = line_short (nat_lt greatest (length s)) strip greatest at (line_endings ending) s refl
last_short (Delim list strip greatest) at s = tt
last_short (Fixed size) at s = tt
