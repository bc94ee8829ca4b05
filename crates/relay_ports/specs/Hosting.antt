-- What the host in memory is seen as, and what each field becomes at a call.
use Rattle.std.specs.Prelude.{◌≡◌, ℕ, ◌-◌, ◌^◌, Bool, List, [], ◌∷◌, ◌++◌, Some, map, if◌then◌else◌}
use Rattle.relay_ports.specs.Told.{counted}
use Rattle.relay_ports.specs.States.{InputEnd, OutputEnd, HostState}
use Rattle.relay_ports.specs.Memory.{Feeding, Filling, new_sink, source_state, sink_state}
use Rattle.relay_ports.specs.Entries.{Entries, with_waiting, with_opened, with_finished}
use Rattle.relay_ports.specs.Lending.{Lending}
use Rattle.relay_ports.specs.declared.failures.NotOpened.{NotOpened}
use Rattle.relay_ports.specs.declared.failures.NotOpened.TheVariants.{Failed, NoMemory}

-- an output that was finished: the sink, and whether the finishing failed
pub record Finished : Type 0 where
  pub sink : Filling
  pub failed : Bool

-- a host over memory: its inputs, its outputs, its report, how often an opening or a finishing failed, the names
-- whose opening failed, and the blocks that it lent; the names whose opening fails, those whose finishing fails, and
-- how many blocks may be out
pub record Hosting : Type 0 where
  pub inputs : Entries Feeding Feeding
  pub outputs : Entries Filling Finished
  pub report : Filling
  pub faults : ℕ
  pub refused : List (List ℕ)
  pub lending : Lending
  pub failing_openings : List (List ℕ)
  pub failing_finishings : List (List ℕ)
  pub most_out : ℕ

-- what is known of an input that was finished
abbrev pub input_end : List ℕ × Feeding → InputEnd
input_end e = record { name = e.0; state = source_state e.1 }

-- what is known of an output that was finished
abbrev pub output_end : List ℕ × Finished → OutputEnd
output_end e = record { name = e.0; state = sink_state e.1.sink; failed = e.1.failed }

-- what is known of a host over memory, which tells all names
abbrev pub host_state : Hosting → HostState
host_state h = record {
  faults = h.faults;
  refused = Some h.refused;
  open_inputs = Some h.inputs.openings.open_names;
  open_outputs = Some h.outputs.openings.open_names;
  inputs = map input_end h.inputs.openings.finished;
  outputs = map output_end h.outputs.openings.finished;
  lent = h.lending.out;
  lends = h.lending.lends;
  report = sink_state h.report;
}

-- a host with nothing in it, of which no call fails, and a report that takes nothing
abbrev pub new_host : Hosting
new_host = record {
  inputs = record { waiting = []; openings = record { open_names = []; finished = [] } };
  outputs = record { waiting = []; openings = record { open_names = []; finished = [] } };
  report = new_sink 0 [];
  faults = 0;
  refused = [];
  lending = record { out = []; lends = 0 };
  failing_openings = [];
  failing_finishings = [];
  most_out = 2 ^ 64 - 1;
}

-- with a source that waits to be opened under a name
abbrev pub with_input : List ℕ → Feeding → Hosting → Hosting
with_input name s h = record h { inputs = with_waiting name s h.inputs }

-- with a sink that waits to be opened under a name
abbrev pub with_output : List ℕ → Filling → Hosting → Hosting
with_output name w h = record h { outputs = with_waiting name w h.outputs }

-- with the input of a name opened
abbrev pub after_open_in : List ℕ → Hosting → Hosting
after_open_in name h = record h { inputs = with_opened name h.inputs }

-- with the output of a name opened
abbrev pub after_create_out : List ℕ → Hosting → Hosting
after_create_out name h = record h { outputs = with_opened name h.outputs }

-- with the input of a name finished
abbrev pub after_finish_in : List ℕ → Feeding → Hosting → Hosting
after_finish_in name s h = record h { inputs = with_finished name s h.inputs }

-- with the output of a name finished, and a finishing that failed counted
abbrev pub after_finish_out : List ℕ → Filling → Bool → Hosting → Hosting
after_finish_out name w failed h = record h {
  outputs = with_finished name (record { sink = w; failed = failed }) h.outputs;
  faults = if failed then counted h.faults else h.faults;
}

-- nothing was opened under a name: its opening fails or it wasn't added, which is counted, or memory was refused
abbrev pub Refused : NotOpened → List ℕ → Hosting → Hosting → Type 0
Refused Failed name old new = new ≡ record old { faults = counted old.faults; refused = old.refused ++ name ∷ [] }
Refused NoMemory name old new = new ≡ old
