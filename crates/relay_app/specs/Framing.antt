-- The command `frames`: a line for each unit of what was read, and a last line.
use Rattle.std.specs.Prelude.{ℕ, Bool, List, ◌++◌, length, if◌then◌else◌}
use Rattle.frame_head.specs.declared.codecs.Codec.{Codec}
use Rattle.frame_head.specs.Heads.{FramingUnit}
use Rattle.frame_head.specs.Units.{units, ended}
use Rattle.relay_app.specs.Noting.{first_fault}
use Rattle.relay_app.specs.Runs.{Command}
use Rattle.relay_app.specs.Text.{unit_lines, end_line}

-- the units of what was read; those of the end are among them where that is the whole input
abbrev pub units_read : Codec → List ℕ → Bool → List FramingUnit
units_read codec read whole = if whole then ended codec read else units codec read

abbrev pub framing : Codec → Command
framing codec = record {
  text = λ read whole. unit_lines (units_read codec read whole) ++ end_line (length read);
  fault = λ read whole. first_fault (units_read codec read whole);
}
