-- Why the parts of a codec are refused.
use Rattle.std.specs.Prelude.{ℕ, ◌+◌, Bool, ◌||◌, ◌==◌, not, List, Option, Some, None, length, nat_lt, if◌then◌else◌}
use Rattle.std.specs.List.{list_any}
use Rattle.frame_head.specs.declared.checks.CodecFault.{CodecFault}
use Rattle.frame_head.specs.declared.checks.CodecFault.TheVariants.{BadField, ZeroLen, MaxOver, OffsetOver, NoDelim, DelimOver}

-- a maximum or a size: at least 1 and at most 16 MiB
abbrev pub size_fault : ℕ → Option CodecFault
size_fault n = if n == 0 then Some ZeroLen else if nat_lt 16777216 n then Some MaxOver else None

abbrev pub is_field : ℕ → Bool
is_field n = n == 1 || n == 2 || n == 4 || n == 8

-- the first of two faults that is there
abbrev pub first_fault : Option CodecFault → Option CodecFault → Option CodecFault
first_fault (Some f) g = Some f
first_fault None g = g

abbrev pub fault_if : Bool → CodecFault → Option CodecFault
fault_if b f = if b then Some f else None

abbrev pub length_fault : ℕ → ℕ → ℕ → Option CodecFault
length_fault field offset max =
    first_fault (fault_if (not (is_field field)) BadField)
    (first_fault (size_fault max)
    (fault_if (nat_lt max (offset + field)) OffsetOver))

abbrev pub marks_fault : List (List ℕ) → ℕ → Option CodecFault
marks_fault list max =
    first_fault (fault_if (list_any (λ m. length m == 0) list) ZeroLen)
    (first_fault (size_fault max)
    (first_fault (fault_if (length list == 0) NoDelim)
    (fault_if (nat_lt 8 (length list) || list_any (λ m. nat_lt 64 (length m)) list) DelimOver)))
