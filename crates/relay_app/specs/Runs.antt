-- A run over one input: what was read of it, what the command answers to that, and what the host is afterwards.
use Rattle.std.specs.Prelude.{◌≡◌, ◌⊎◌, ℕ, ◌+◌, ◌≤◌, Bool, true, List, [], ◌∷◌, ◌++◌, Option, length, if◌then◌else◌}
use Rattle.relay_ports.specs.States.{SourceState, SinkState, OutputEnd, HostState}
use Rattle.relay_ports.specs.Calls.{Unopened}
use Rattle.relay_ports.specs.Told.{counted}
use Rattle.relay_ports.specs.declared.failures.NotOpened.TheVariants.{Failed}
use Rattle.relay_app.specs.declared.status.Status.{Status}
use Rattle.relay_app.specs.declared.status.Status.TheVariants.{NotOpened, Memory}
use Rattle.relay_app.specs.declared.stream_fault.StreamFault.{StreamFault}
use Rattle.relay_app.specs.Inputs.{Intake, ReadsInput, bytes_read, intake, is_whole, status_of, stream_or}
use Rattle.relay_app.specs.Reports.{Completed, Ends, report_status}

-- what a run did beside reading its input and writing its report: the outputs that it made and finished, in order, and
-- how often it was lent a block; each block came back
pub record Effects : Type 0 where
  pub outputs : List OutputEnd
  pub lends : ℕ

abbrev pub no_effects : Effects
no_effects = record { outputs = []; lends = 0 }

-- a count of failures, with one more for each output whose finishing failed
abbrev pub with_finishings : List OutputEnd → ℕ → ℕ
with_finishings [] faults = faults
with_finishings (o ∷ os) faults = with_finishings os (if o.failed then counted faults else faults)

-- a host behind a run that finished the input of this name in this state, with its effects and its report; all else
-- stays
abbrev pub after_run : List ℕ → SourceState → Effects → SinkState → HostState → HostState
after_run name t effects report h = record h {
  faults = with_finishings effects.outputs h.faults;
  inputs = h.inputs ++ record { name = name; state = t } ∷ [];
  outputs = h.outputs ++ effects.outputs;
  lends = h.lends + effects.lends;
  report = report;
}

-- nothing was opened: the outside refused it, or memory was refused
abbrev pub OpensNothing : List ℕ → HostState → HostState → Status → Type 0
OpensNothing name h k status = ((status ≡ NotOpened 0) × Unopened Failed name h k) ⊎ ((status ≡ Memory) × (k ≡ h))

-- of commands by their answer to what was read: its effects, the report before and after, and the status
module _ (answers : Intake → Effects → SinkState → SinkState → Status → Type 0) where
  -- the input of this name was opened, read and finished, and the command answered so
  pub record Finishes (name : List ℕ) (limit : ℕ) (h k : HostState) (status : Status) : Type 0 where
    pub given : List ℕ
    pub input : SourceState
    pub reads : ReadsInput (intake limit given input) status
    pub effects : Effects
    pub state : k ≡ after_run name input effects k.report h
    pub answered : answers (intake limit given input) effects h.report k.report status

  -- a run over the input of this name
  abbrev pub RunsInput : List ℕ → ℕ → HostState → HostState → Status → Type 0
  RunsInput name limit h k status = OpensNothing name h k status ⊎ Finishes name limit h k status

  -- unless memory was refused, a run whose input never failed and gave no more than the limit answers to all that it
  -- gave, as the whole input
  abbrev pub IsComplete : (List ℕ → Effects → SinkState → SinkState → Status → Type 0) → Type 0
  IsComplete to_whole =
      (i : Intake) (effects : Effects) (w v : SinkState) (status : Status)
      → ReadsInput i status → i.input.faults ≡ 0 → length i.given ≤ i.limit
      → answers i effects w v status → (status ≡ Memory) ⊎ to_whole i.given effects w v status

-- a command whose report is a function of what was read: its text and the first fault, from the bytes that were read
-- and from whether these are the whole input
pub record Command : Type 0 where
  pub text : List ℕ → Bool → List ℕ
  pub fault : List ℕ → Bool → Option StreamFault

-- the report of what was read
abbrev pub text_of : Command → Intake → List ℕ
text_of c i = c.text (bytes_read i) (is_whole i)

-- the first fault in what was read
abbrev pub fault_in : Command → Intake → Option StreamFault
fault_in c i = c.fault (bytes_read i) (is_whole i)

-- its report was written
abbrev pub ReportsText : Command → Intake → SinkState → SinkState → Status → Type 0
ReportsText c i w v status =
    Ends (text_of c i) (λ failed. status_of i (fault_in c i) (report_status failed)) w v status

-- such a command writes its report, and does nothing beside
abbrev pub Answers : Command → Intake → Effects → SinkState → SinkState → Status → Type 0
Answers c i effects w v status = (effects ≡ no_effects) × ReportsText c i w v status

-- its answer to a whole input: the whole text, and the status of its first fault or of its report
abbrev pub AnswersWhole : Command → List ℕ → Effects → SinkState → SinkState → Status → Type 0
AnswersWhole c bytes effects w v status =
    (effects ≡ no_effects)
    × Completed (c.text bytes true) (λ failed. stream_or (report_status failed) (c.fault bytes true)) w v status

-- a run of such a command that finished its input changed its host by that input and the report alone
abbrev pub LeavesTheRest : Command → Type 0
LeavesTheRest c =
    (name : List ℕ) (limit : ℕ) (h k : HostState) (status : Status) (f : Finishes (Answers c) name limit h k status)
    → k ≡ record h { inputs = h.inputs ++ record { name = name; state = f.input } ∷ []; report = k.report }
