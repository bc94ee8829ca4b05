-- What is known of the outside of a process, which tells no content.
use Rattle.std.specs.Prelude.{ℕ, List, None}
use Rattle.relay_ports.specs.declared.failures.NotOpened.{NotOpened}
use Rattle.relay_ports.specs.declared.failures.NotOpened.TheVariants.{Failed, NoMemory}
use Rattle.relay_ports.specs.declared.tally.Faults.{Faults}
use Rattle.relay_ports.specs.Told.{counted}
use Rattle.relay_ports.specs.States.{SourceState, SinkState, InputEnd, OutputEnd}
use Rattle.relay_prog.specs.declared.os_input.Reading.{Reading}
use Rattle.relay_prog.specs.declared.os_output.Finishing.{Finishing}

-- a source of which only its counts are known, and the longest slice that a call was handed
abbrev pub untold_source : Reading → SourceState
untold_source r = record {
  given = None;
  left = None;
  faults = r.counts.faults;
  after = r.counts.after;
  longest = r.longest;
}

-- a sink of which only its counts are known
abbrev pub untold_sink : Faults → SinkState
untold_sink c = record { written = None; faults = c.faults; after = c.after }

-- what is known of an input that was finished
abbrev pub input_end : List ℕ × Reading → InputEnd
input_end e = record { name = e.0; state = untold_source e.1 }

-- what is known of an output that was finished
abbrev pub output_end : List ℕ × Finishing → OutputEnd
output_end e = record { name = e.0; state = untold_sink e.1.counts; failed = e.1.failed }

-- the count of openings and finishings that failed, after an opening that was refused
abbrev pub faults_after : NotOpened → ℕ → ℕ
faults_after Failed faults = counted faults
faults_after NoMemory faults = faults
