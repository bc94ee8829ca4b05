-- Which ways of writing frames are refused.
use Rattle.std.specs.Prelude.{ℕ, ◌==◌, not, List, Option, None, length, nat_lt}
use Rattle.frame_head.specs.declared.out.Out.{Out}
use Rattle.frame_head.specs.declared.out.Out.TheVariants.{Length, Line, Delim, Raw}
use Rattle.frame_head.specs.declared.checks.CodecFault.{CodecFault}
use Rattle.frame_head.specs.declared.checks.CodecFault.TheVariants.{BadField, ZeroLen, DelimOver}
use Rattle.frame_head.specs.Checks.{is_field, first_fault, fault_if}

abbrev pub field_fault : ℕ → Option CodecFault
field_fault field = fault_if (not (is_field field)) BadField

abbrev pub mark_fault : List ℕ → Option CodecFault
mark_fault mark = first_fault (fault_if (length mark == 0) ZeroLen) (fault_if (nat_lt 64 (length mark)) DelimOver)

-- why a way of writing frames is refused, if it is
abbrev pub out_fault : Out → Option CodecFault
out_fault (Length field little) = field_fault field
out_fault (Line crlf) = None
out_fault (Delim mark) = mark_fault mark
out_fault Raw = None
